use Rattle.std.proofs.Common.{sym}
use Rattle.hdl_cluster_laws.specs.Together.{all_turns}
use Rattle.hdl_cluster_laws.proofs.laws.servers_are_one.Goals as goal

pub returns : goal.returns
returns c = λ number servers worlds whole stages end apart rootless has theirs each.
    let steps = c.histories_are_steps.ensures servers worlds stages end whole.table (λ server. sym (has server).table) theirs each in
    let it = c.turns_are_runs.ensures number worlds whole (all_turns servers stages end) apart has steps in
    record {
      new = it.0;
      run = it.1;
      isolated = λ turns run es os. c.restricted.ensures.alone whole turns rootless run;
      hidden = λ turns run es os. c.twin_replies.ensures whole turns run;
    }
