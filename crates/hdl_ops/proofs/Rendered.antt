-- What is written of a reply is read.
use Rattle.std.proofs.Common.{◌≡◌, ℕ, List, Result, Ok, Err, subst}
use Rattle.std.specs.Prelude.{IfOk}
use Rattle.hdl_msg.specs.declared.replies.Reply.{Reply}
use Rattle.hdl_msg.specs.Reply.{reply_parts, parts_read, wire_of_content, IsAnnounced, FramesReply, IsReplyFrame}

pub reads : {X E : Type 0} (items : X → List ℕ) (o : Result X E) (y z : Reply) → z ≡ y
    → IfOk o (λ v. IsAnnounced (reply_parts y) → FramesReply (wire_of_content y.content) (items v) (parts_read (reply_parts y))) → IfOk o (λ v. IsAnnounced (reply_parts z) → IsReplyFrame (items v))
reads items (Ok v) y z same h = λ announced. (wire_of_content y.content, parts_read (reply_parts y), h (subst (λ (x : Reply). IsAnnounced (reply_parts x)) same announced))
reads items (Err e) y z same h = tt
