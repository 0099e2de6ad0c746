-- The answer to a question for site information: what it announces, its code, and that it changes nothing.
use Rattle.std.proofs.Common.{◌≡◌, ◌==◌, ℕ, List, Bool, true, false, cond, Some, None, refl, sym, ap}
use Rattle.std.specs.Prelude.{IsTrue}
use Rattle.hdl_auth.specs.declared.algorithm.Algorithm.{Algorithm}
use Rattle.hdl_msg.specs.declared.codes.OpCode.TheVariants.{GetSiteInfo}
use Rattle.hdl_msg.specs.declared.replies.ReplyContent.{ReplyContent}
use Rattle.hdl_msg.specs.declared.replies.ReplyContent.TheVariants.{Empty, Site}
use Rattle.hdl_msg.specs.Codes.{IsNumberOf}
use Rattle.hdl_msg.specs.Message.{Content}
use Rattle.hdl_msg.specs.Reply.{IsAnnounced, announced_form, reply_parts, success_form}
use Rattle.hdl_msg.proofs.OpCodes.{op_code_again}
use Rattle.hdl_ops.specs.Decisions.{Decision, failure, site_decision}
use Rattle.hdl_ops.specs.Replies.{fits, reply_to}
use Rattle.hdl_ops.proofs.Announced.{digest_announced}
use Rattle.hdl_ops.proofs.Codes.{is_answer_code}

module _ (a : Algorithm) (r : Content) (octets : List ℕ) where
  abbrev by_room : Bool → Decision
  by_room b = cond {A = Decision} b (record { code = 1; content = Site octets; change = None }) (failure 2 Empty)

  pub site_announced : (moment session number : ℕ) → IsNumberOf (Some GetSiteInfo) r.header.op_code → IsAnnounced (reply_parts (reply_to a moment session number r (site_decision a r octets).code (site_decision a r octets).content))
  unfolding reply_to announced_form site_decision
  site_announced moment session number has = by (fits a r (Site octets))
    where
      by : (b : Bool) → IsAnnounced (reply_parts (reply_to a moment session number r (by_room b).code (by_room b).content))
      by true = record { digest = digest_announced a r 1 refl; form = ap success_form (sym (op_code_again (Some GetSiteInfo) r.header.op_code has)) }
      by false = record { digest = digest_announced a r 2 refl; form = refl }

  pub site_code : IsTrue (is_answer_code (site_decision a r octets).code)
  unfolding site_decision
  site_code = by (fits a r (Site octets))
    where
      by : (b : Bool) → IsTrue (is_answer_code (by_room b).code)
      by true = refl
      by false = refl

  pub site_unchallenged : (site_decision a r octets).code == 402 ≡ false
  unfolding site_decision
  site_unchallenged = by (fits a r (Site octets))
    where
      by : (b : Bool) → (by_room b).code == 402 ≡ false
      by true = refl
      by false = refl

  pub site_changes_nothing : (site_decision a r octets).change ≡ None
  unfolding site_decision
  site_changes_nothing = by (fits a r (Site octets))
    where
      by : (b : Bool) → (by_room b).change ≡ None
      by true = refl
      by false = refl

  pub site_told : (site_decision a r octets).content ≡ cond {A = ReplyContent} ((site_decision a r octets).code == 1) (Site octets) Empty
  unfolding site_decision
  site_told = by (fits a r (Site octets))
    where
      by : (b : Bool) → (by_room b).content ≡ cond {A = ReplyContent} ((by_room b).code == 1) (Site octets) Empty
      by true = refl
      by false = refl
