use Rattle.std.proofs.Common.{inl, refl, rules}
use Rattle.hdl_forms.proofs.Made.{made_both}
use Rattle.hdl_forms.proofs.history.with_history.Goals as goal

pub returns-clause-history : goal.returns-clause-history
returns-clause-history c =
    inl (
      search rules,
      record {
        status = refl;
        media = refl;
        location = refl;
        cache_control = refl;
        title = refl;
        body = (c.in_ok-history_part.field-0, c.in_ok-history_part.ensures, search rules);
      },
    )

pub returns-clause-page : goal.returns-clause-page
returns-clause-page c was =
    record {
      told = record { status = was.told.status; media = was.told.media; location = was.told.location };
      kept = was.kept;
      body = made_both c.args.answer.body.items c.into_octets-part.result.items _ was.body c.into_octets-part.ensures.made (search rules);
    }
