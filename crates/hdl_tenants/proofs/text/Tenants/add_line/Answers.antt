use Rattle.std.proofs.Common.{sym, ◌∙◌, true≢false}
use Rattle.hdl_tenants.specs.Register.{Publisher}
use Rattle.hdl_tenants.specs.Text.{publisher, hosted, IsSkipped}
use Rattle.hdl_tenants.specs.Record.{publisher_on}
use Rattle.hdl_tenants.proofs.Sayings.{both_ok, if_ok, if_fault, sited_fault, opened_fault, no_line, opens_adds, informs_adds}
use Rattle.hdl_tenants.proofs.text.Tenants.add_line.Goals as goal

pub returns-in-Some-clause-ok : goal.returns-in-Some-clause-ok
returns-in-Some-clause-ok c =
    let p : Publisher = publisher_on c.in-Some.line in
    let fields = rw (c.deref.ensures.value, c.in-Ok.ensures) at c.in-Some.ensures in
    both_ok _ _ _ c.add_publisher.result c.add_publisher.ensures.allowed c.add_publisher.ensures.added (λ allowed added. (publisher p, fields, allowed, added))

pub returns-in-Some-prefix_of-clause-ok : goal.returns-in-Some-prefix_of-clause-ok
returns-in-Some-prefix_of-clause-ok c =
    let line = c.in-Some-prefix_of.line in
    let fields = rw (c.deref-2.ensures.value, c.in-Ok.ensures) at c.in-Some-prefix_of.ensures in
    both_ok _ _ _ c.add_prefix.result c.add_prefix.ensures.allowed c.add_prefix.ensures.added (λ allowed added. (hosted line.prefix.now line.name.now line.algorithm, fields, allowed, added))

pub returns-in-Some-site_of-clause-ok : goal.returns-in-Some-site_of-clause-ok
returns-in-Some-site_of-clause-ok c =
    let line = c.in-Some-site_of.line in
    let fields = rw (c.deref-3.ensures.value, c.in-Ok.ensures) at c.in-Some-site_of.ensures in
    if_ok _ _ c.add_site.result c.add_site.ensures.ok (informs_adds c.args.self.now c.args.line.now line.name.now line.digits.now c.add_site.new.self fields)

pub returns-in-Some-site_of-clause-fault : goal.returns-in-Some-site_of-clause-fault
returns-in-Some-site_of-clause-fault c =
    let line = c.in-Some-site_of.line in
    let shown : ¬ (IsSkipped c.args.line.now) = λ skipped. true≢false (sym (c.is_skipped.ensures.1 skipped) ∙ c.if-is_skipped.false) in
    let no_publisher = rw (c.deref.ensures.value, c.in-Ok.ensures) at c.in_default-publisher_of.ensures in
    let no_prefix = rw (c.deref-2.ensures.value, c.in-Ok.ensures) at c.in_default-prefix_of.ensures in
    let fields = rw (c.deref-3.ensures.value, c.in-Ok.ensures) at c.in-Some-site_of.ensures in
    if_fault _ _ c.add_site.result c.add_site.ensures.fault (sited_fault c.args.self.now c.args.line.now shown no_publisher no_prefix line.name.now line.digits.now fields)

pub returns-in-Some-value_of-clause-ok : goal.returns-in-Some-value_of-clause-ok
returns-in-Some-value_of-clause-ok c =
    let line = c.in-Some-value_of.line in
    let fields = rw (c.deref-4.ensures.value, c.in-Ok.ensures) at c.in-Some-value_of.ensures in
    if_ok _ _ c.add_value.result c.add_value.ensures.ok (opens_adds c.args.self.now c.args.line.now line.handle.now line.digits.now c.add_value.new.self fields)

pub returns-in-Some-value_of-clause-fault : goal.returns-in-Some-value_of-clause-fault
returns-in-Some-value_of-clause-fault c =
    let line = c.in-Some-value_of.line in
    let shown : ¬ (IsSkipped c.args.line.now) = λ skipped. true≢false (sym (c.is_skipped.ensures.1 skipped) ∙ c.if-is_skipped.false) in
    let no_publisher = rw (c.deref.ensures.value, c.in-Ok.ensures) at c.in_default-publisher_of.ensures in
    let no_prefix = rw (c.deref-2.ensures.value, c.in-Ok.ensures) at c.in_default-prefix_of.ensures in
    let no_site = rw (c.deref-3.ensures.value, c.in-Ok.ensures) at c.in_default-site_of.ensures in
    let fields = rw (c.deref-4.ensures.value, c.in-Ok.ensures) at c.in-Some-value_of.ensures in
    if_fault _ _ c.add_value.result c.add_value.ensures.fault (opened_fault c.args.self.now c.args.line.now shown no_publisher no_prefix no_site line.handle.now line.digits.now fields)

pub returns-clause-fault : goal.returns-clause-fault
returns-clause-fault c =
    let shown : ¬ (IsSkipped c.args.line.now) = λ skipped. true≢false (sym (c.is_skipped.ensures.1 skipped) ∙ c.if-is_skipped.false) in
    let no_publisher = rw (c.deref.ensures.value, c.in-Ok.ensures) at c.in_default-publisher_of.ensures in
    let no_prefix = rw (c.deref-2.ensures.value, c.in-Ok.ensures) at c.in_default-prefix_of.ensures in
    let no_site = rw (c.deref-3.ensures.value, c.in-Ok.ensures) at c.in_default-site_of.ensures in
    let no_value = rw (c.deref-4.ensures.value, c.in-Ok.ensures) at c.in_default-value_of.ensures in
    no_line c.args.self.now c.args.line.now shown no_publisher no_prefix no_site no_value
