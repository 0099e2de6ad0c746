use Rattle.std.proofs.Common.{◌≡◌, ◌++◌, List, ℕ, Bool, sym, ap, subst, ◌∙◌}
use Rattle.std.specs.Str.Lines.{lines}
use Rattle.hdl_tenants.specs.Register.{Register, Hosting, empty, hosts_among}
use Rattle.hdl_rows.specs.Table.{Table}
use Rattle.hdl_tenants.specs.Text.{place_of}
use Rattle.hdl_tenants.proofs.Uniqueness.{one_register}
use Rattle.hdl_laws.specs.Worlds.{hosts}
use Rattle.hdl_laws.specs.Isolation.{Agrees, IsClosed, restrict, restrict_site, restrict_table}
use Rattle.hdl_laws.proofs.Writes.{restrict_same, closed_agrees}
use Rattle.hdl_core.specs.Opening.{opening_table}
use Rattle.hdl_export.specs.Rows.{is_among, rows_in, foreign_rows}
use Rattle.hdl_export.specs.Laws.{prefixes_for, with_rows}
use Rattle.hdl_export.proofs.HostedFor.{hosted_for}
use Rattle.hdl_export.proofs.Moves.{agrees, closed}
use Rattle.hdl_export.proofs.laws.publisher_moves.Goals as goal

pub returns : goal.returns
returns c = λ texts name t out x s read say w tabled hosting.
    let u = place_of name x.register.publishers in
    let prefixes = prefixes_for name texts in
    let opened = rows_in prefixes x.authorities t ++ foreign_rows prefixes t x.cover in
    let same : s ≡ with_rows x.register opened = one_register empty (lines out) s (with_rows x.register opened) read x.written in
    let hosted : hosts w.site u ≡ (λ q. is_among q prefixes) = λ i q. (ap (λ (hs : List Hosting). hosts_among hs u q) hosting ∙ hosted_for texts x.register name q x.given) i in
    let one = agrees prefixes t say x.authorities x.all x.cover in
    let tables : restrict_table (hosts w.site u) x.cover w.table ≡ restrict_table (hosts w.site u) x.cover (opening_table s.opening) =
    ap (restrict_table (hosts w.site u) x.cover) tabled
    ∙ restrict_same (hosts w.site u) x.cover t (opening_table opened) (subst (λ (f : List ℕ → Bool). Agrees f x.cover t (opening_table opened)) (sym hosted) one)
    ∙ ap (λ (r : Register). restrict_table (hosts w.site u) x.cover (opening_table r.opening)) (sym same) in
    let closed_there = closed prefixes t say x.authorities x.all x.cover x.rows x.onward in
    record {
      publishers = ap (λ (r : Register). r.publishers) same;
      hostings = ap (λ (r : Register). r.hostings) same;
      sites = ap (λ (r : Register). r.sites) same;
      closed = subst (λ (z : Table). IsClosed (hosts w.site u) x.cover z) (sym tabled) (subst (λ (f : List ℕ → Bool). IsClosed f x.cover t) (sym hosted) closed_there);
      closed_there = subst (λ (r : Register). IsClosed (hosts w.site u) x.cover (opening_table r.opening)) (sym same)
          (subst (λ (f : List ℕ → Bool). IsClosed f x.cover (opening_table opened)) (sym hosted) (closed_agrees (λ q. is_among q prefixes) x.cover t (opening_table opened) one closed_there));
      same = λ i. record { site = restrict_site w.site u; table = tables i; lanes = (restrict w u x.cover).lanes };
    }
