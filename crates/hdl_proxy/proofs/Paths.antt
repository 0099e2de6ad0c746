-- The text of a name in a path.
use Rattle.std.proofs.Common.{◌≡◌, ◌≢◌, ℕ, Bool, true, false, cond, eqb, List, [], ◌∷◌, ◌++◌, refl, sym, subst, ap, ◌∙◌, inl, inr}
use Rattle.std.specs.Str.Pattern.{FindsTextPrefix, StripsPrefix}
use Rattle.std.proofs.lemmas.Bool.{eqb-true}
use Rattle.hdl_proxy.specs.Begin.{IsOfHandle, IsUnder, api_path, json_path, without_slash}

none_stripped : (octet : ℕ) (rest : List ℕ) (b : Bool) → eqb octet 47 ≡ b → octet ∷ rest ≢ 47 ∷ rest → cond b rest (octet ∷ rest) ≡ octet ∷ rest
none_stripped octet rest true e other = absurd (other (ap (λ o. o ∷ rest) (eqb-true octet 47 e)))
none_stripped octet rest false e other = refl

-- a path that begins with no slash stays
pub stays_whole : (path : List ℕ) → ((rest : List ℕ) → path ≢ 47 ∷ rest) → without_slash path ≡ path
stays_whole [] h = refl
stays_whole (octet ∷ rest) h = none_stripped octet rest (eqb octet 47) refl (h rest)

-- a slash in front goes
pub slash_goes : (path rest : List ℕ) → path ≡ 47 ∷ rest → without_slash path ≡ rest
slash_goes path rest e = subst (λ p. without_slash p ≡ rest) (sym e) refl

-- what stands behind a text in front, and where it doesn't stand in front
pub behind_front : (front path rest : List ℕ) → StripsPrefix (FindsTextPrefix front) path rest → path ≡ front ++ rest
behind_front front path rest h = h.1.1 ∙ ap (λ l. front ++ l) (sym h.2)

-- under `/api/` just what asks for JSON is of a handle
pub no_handle : (path : List ℕ) → IsOfHandle path → ((rest : List ℕ) → path ≢ json_path ++ rest) → IsUnder api_path path → ⊥
no_handle path (inl json) other under = other json.0 json.1
no_handle path (inr outside) other under = outside under
