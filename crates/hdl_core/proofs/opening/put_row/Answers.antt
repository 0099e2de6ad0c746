use Rattle.std.proofs.Common.{◌≡◌, ◌∷◌, [], rules, ap, ◌∙◌, true}
use Rattle.hdl_name.specs.Name.{canonical}
use Rattle.hdl_rows.specs.Table.{has, with_values}
use Rattle.hdl_core.proofs.Opened.{on_ok, row_added}
use Rattle.hdl_core.proofs.opening.put_row.Goals as goal

pub returns-then-branch : goal.returns-then-branch
returns-then-branch g c =
    let one : c.from_ref-values.result.now ≡ c.args.value.now ∷ [] = search rules in
    let there : has (g.R.Rows.content c.args.rows.now) (canonical c.args.name.now) ≡ true = search rules in
    on_ok c.add.result _ _ (λ done. done ∙ ap (λ vs. with_values (g.R.Rows.content c.exists.new.self) (canonical c.args.name.now) vs) one ∙ ap (λ t. with_values t (canonical c.args.name.now) (c.args.value.now ∷ [])) c.exists.ensures.unchanged ∙ row_added (g.R.Rows.content c.args.rows.now) c.args.name.now c.args.value.now there) c.add.ensures.done
