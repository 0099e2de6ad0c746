-- The operation of a number is the one whose number it is.
use Rattle.std.proofs.Common.{◌≡◌, ◌≢◌, ℕ, Bool, true, false, cond, eqb, Option, Some, None, refl, ap}
use Rattle.std.proofs.lemmas.Bool.{eqb-true, eqb-false, ne_eqb}
use Rattle.hdl_msg.specs.declared.codes.OpCode.{OpCode}
use Rattle.hdl_msg.specs.declared.codes.OpCode.TheVariants.{Resolution, GetSiteInfo, CreateHandle, DeleteHandle, AddValue, RemoveValue, ModifyValue, ListHandles, ChallengeResponse}
use Rattle.hdl_msg.specs.Codes.{op_number, op_code_of, IsNumberOf}

tested : (b : Bool) (x y : Option OpCode) (n : ℕ) → (b ≡ true → IsNumberOf x n) → (b ≡ false → IsNumberOf y n) → IsNumberOf (cond b x y) n
tested true x y n on off = on refl
tested false x y n on off = off refl

pub op_code_is : (n : ℕ) → IsNumberOf (op_code_of n) n
unfolding op_code_of
op_code_is n =
    tested (eqb n 1) _ _ n (λ e. eqb-true _ _ e) (λ e1.
    tested (eqb n 2) _ _ n (λ e. eqb-true _ _ e) (λ e0.
    tested (eqb n 100) _ _ n (λ e. eqb-true _ _ e) (λ e2.
    tested (eqb n 101) _ _ n (λ e. eqb-true _ _ e) (λ e3.
    tested (eqb n 102) _ _ n (λ e. eqb-true _ _ e) (λ e4.
    tested (eqb n 103) _ _ n (λ e. eqb-true _ _ e) (λ e5.
    tested (eqb n 104) _ _ n (λ e. eqb-true _ _ e) (λ e6.
    tested (eqb n 105) _ _ n (λ e. eqb-true _ _ e) (λ e7.
    tested (eqb n 200) _ _ n (λ e. eqb-true _ _ e) (λ e8. λ code. elim code as (λ c. n ≢ op_number c) [
      | Resolution ↦ eqb-false _ _ e1
      | GetSiteInfo ↦ eqb-false _ _ e0
      | CreateHandle ↦ eqb-false _ _ e2
      | DeleteHandle ↦ eqb-false _ _ e3
      | AddValue ↦ eqb-false _ _ e4
      | RemoveValue ↦ eqb-false _ _ e5
      | ModifyValue ↦ eqb-false _ _ e6
      | ListHandles ↦ eqb-false _ _ e7
      | ChallengeResponse ↦ eqb-false _ _ e8
    ])))))))))

pub op_code_again : (code : Option OpCode) (n : ℕ) → IsNumberOf code n → op_code_of n ≡ code
unfolding op_code_of
op_code_again (Some Resolution) n is = ap op_code_of is
op_code_again (Some GetSiteInfo) n is = ap op_code_of is
op_code_again (Some CreateHandle) n is = ap op_code_of is
op_code_again (Some DeleteHandle) n is = ap op_code_of is
op_code_again (Some AddValue) n is = ap op_code_of is
op_code_again (Some RemoveValue) n is = ap op_code_of is
op_code_again (Some ModifyValue) n is = ap op_code_of is
op_code_again (Some ListHandles) n is = ap op_code_of is
op_code_again (Some ChallengeResponse) n is = ap op_code_of is
op_code_again None n is =
    rw (
      ne_eqb n 1 (is Resolution),
      ne_eqb n 2 (is GetSiteInfo),
      ne_eqb n 100 (is CreateHandle),
      ne_eqb n 101 (is DeleteHandle),
      ne_eqb n 102 (is AddValue),
      ne_eqb n 103 (is RemoveValue),
      ne_eqb n 104 (is ModifyValue),
      ne_eqb n 105 (is ListHandles),
      ne_eqb n 200 (is ChallengeResponse),
    ) refl
