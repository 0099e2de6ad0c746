use Rattle.std.proofs.Common.{◌≡◌, sym, subst}
use Rattle.sqlite.specs.State.{HasCleanDisk}
use Rattle.sqlite.specs.Files.{file_state}
use Rattle.hdl_sqlrows.specs.Opening.{opened_with, filed_base, no_base}
use Rattle.hdl_durablerows.specs.Threaded.{IfHere}
use Rattle.hdl_durablerows.specs.Opened.{IsOpenedIn}
use Rattle.hdl_durablerows.proofs.Crashes.{here_map}
use Rattle.hdl_durablerows.proofs.opening.table_with_threads.Goals as goal

pub returns-clause-made : goal.returns-clause-made
returns-clause-made g c schema =
    let here = here_map c.over-file.result.place (λ s to clean. c.in_ok-rows.ensures.made schema (to clean)) c.over-file.ensures.clean in
    subst (λ l. IfHere l.file.place (λ s. HasCleanDisk s → l.table ≡ (opened_with no_base c.args.opening.now).table)) (sym c.over.ensures) here

pub returns-clause-found : goal.returns-clause-found
returns-clause-found g c schema =
    let here = here_map c.over-file.result.place (λ s to clean. c.in_ok-rows.ensures.found schema (to clean)) c.over-file.ensures.clean in
    subst (λ l. IfHere l.file.place (λ s. HasCleanDisk s → l.table ≡ (opened_with (filed_base (file_state c.args.conn)) c.args.opening.now).table)) (sym c.over.ensures) here

pub returns-clause-opened : goal.returns-clause-opened
returns-clause-opened g c =
    let here = here_map c.over-file.result.place (λ s to clean. c.in_ok-rows.ensures.opened (to clean)) c.over-file.ensures.clean in
    subst (λ l. IfHere l.file.place (λ s. HasCleanDisk s → IsOpenedIn (file_state c.args.conn) c.args.opening.now l.table)) (sym c.over.ensures) here
