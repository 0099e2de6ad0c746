-- What a write stores stands where what came stands, and is of the same types.
use Rattle.std.proofs.Common.{◌≡◌, ℕ, Bool, ◌||◌, ◌&&◌, ◌==◌, not, true, false, List, [], ◌∷◌, length, map, refl, sym, ap, ◌∙◌}
use Rattle.std.specs.Prelude.{nat_lt}
use Rattle.std.specs.List.{list_any}
use Rattle.std.proofs.lemmas.List.{length-map}
use Rattle.hdl_value.specs.declared.value.Value.{Value}
use Rattle.hdl_value.specs.declared.wire.Wire.{Wire}
use Rattle.hdl_value.specs.Padding.{stored_by}
use Rattle.hdl_value.specs.Refs.{is_admin}
use Rattle.hdl_msg.specs.Message.{Operation, resolution, site_info, create, delete, add, remove, modify, list, response, other}
use Rattle.hdl_ops.specs.Admission.{has_twins, is_bad_list}
use Rattle.hdl_ops.specs.Requests.{sent_handle, with_stored}

-- ---- values

pub any_stored : (w : Wire) (test : Value → Bool) → ((v : Value) → test (stored_by w v) ≡ test v) → (vs : List Value) → list_any test (map (stored_by w) vs) ≡ list_any test vs
any_stored w test same [] = refl
any_stored w test same (v ∷ vs) = λ i. same v i || any_stored w test same vs i

pub admins_stored : (w : Wire) (vs : List Value) → list_any is_admin (map (stored_by w) vs) ≡ list_any is_admin vs
admins_stored w vs = any_stored w is_admin (λ v. refl) vs

twins_stored : (w : Wire) (vs : List Value) → has_twins (λ v. v.index) (map (stored_by w) vs) ≡ has_twins (λ v. v.index) vs
twins_stored w [] = refl
twins_stored w (v ∷ vs) = λ i. any_stored w (λ y. y.index == v.index) (λ y. refl) vs i || twins_stored w vs i

pub bad_stored : (w : Wire) (vs : List Value) → is_bad_list (λ v. v.index) (map (stored_by w) vs) ≡ is_bad_list (λ v. v.index) vs
bad_stored w vs = λ i. length-map vs (stored_by w) i == 0 || nat_lt 256 (length-map vs (stored_by w) i) || twins_stored w vs i

-- ---- operations

pub stored_handle : (w : Wire) (o : Operation) → sent_handle (with_stored w o) ≡ sent_handle o
stored_handle w (resolution handle indexes types) = refl
stored_handle w (create handle values) = refl
stored_handle w (delete handle) = refl
stored_handle w (add handle values) = refl
stored_handle w (remove handle indexes) = refl
stored_handle w (modify handle values) = refl
stored_handle w (list handle) = refl
stored_handle w (response kind handle index answer) = refl
stored_handle w (site_info octets) = refl
stored_handle w (other octets) = refl
