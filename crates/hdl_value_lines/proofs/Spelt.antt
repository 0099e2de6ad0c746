-- A value by its octets.
use Rattle.std.proofs.Common.{◌≡◌, ℕ, List, [], Some, sym, ap, ◌∙◌}
use Rattle.std.proofs.lemmas.List.{append-nil}
use Rattle.hdl_value.specs.declared.value.Value.{Value}
use Rattle.hdl_value.specs.Spelling.{spelling, Fits, value_at}
use Rattle.hdl_value.proofs.FieldLaws.{some_is}
use Rattle.hdl_value.proofs.Values.{value_codec}

pub spelt_again : (octets : List ℕ) (v : Value) → Fits v → octets ≡ spelling v → value_at octets ≡ Some (v, [])
spelt_again octets v fits e = ap value_at (e ∙ sym (append-nil (spelling v))) ∙ value_codec.again v [] fits

pub spelt_is : (octets rest : List ℕ) (v w : Value) → Fits v → octets ≡ spelling v → value_at octets ≡ Some (w, rest) → w ≡ v
spelt_is octets rest v w fits e read =
    ap (λ (x : Value × List ℕ). x.0) (some_is (w, rest) (v, []) (sym read ∙ spelt_again octets v fits e))
