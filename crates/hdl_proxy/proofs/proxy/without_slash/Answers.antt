use Rattle.std.proofs.Common.{None, lit<, sym}
use Rattle.std.proofs.lemmas.Str.Pattern.{strip_prefix_char}
use Rattle.hdl_proxy.proofs.Paths.{stays_whole}
use Rattle.hdl_proxy.proofs.proxy.without_slash.Goals as goal

pub returns-in-None : goal.returns-in-None
returns-in-None c = sym (stays_whole _ (strip_prefix_char 47 c.args.path.now None c.in-None.ensures.cases (lit< tt)))
