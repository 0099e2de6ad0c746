-- An answer that others may keep for less time leads where it did.
use Rattle.std.proofs.Common.{ℕ, List, Option, Some, None, inl, inr}
use Rattle.hdl_languages.specs.declared.language.Language.{Language}
use Rattle.hdl_proxy.specs.Answer.{IsLocated}
use Rattle.hdl_proxy.specs.Step.{IsNamed, IsWithin}
use Rattle.hdl_proxy.specs.declared.answer.Answer.{Answer}
use Rattle.hdl_proxy.specs.declared.answer.CacheControl.{CacheControl}

pub within_located : (most : CacheControl) (before after : Answer) → IsLocated before → IsWithin most before after → IsLocated after
within_located most before after h w = rw (w.location, w.status) h

pub named_located : (language : Language) (asked : Option (List ℕ)) (before after : Answer) → IsLocated before → IsNamed language asked before after → IsLocated after
named_located language None before after h n = rw n h
named_located language (Some asked) before after h (inl n) = rw (n.1.location, n.1.status) h
named_located language (Some asked) before after h (inr n) = rw n.1 h
