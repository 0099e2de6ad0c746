-- Two runs in a row are one.
use Rattle.std.proofs.Common.{◌≡◌, List, [], ◌∷◌, ◌++◌, refl, sym, ap, ◌∙◌, subst}
use Rattle.std.proofs.lemmas.List.{map-append}
use Rattle.hdl_laws.specs.Worlds.{World}
use Rattle.hdl_laws.specs.Steps.{Turn}
use Rattle.hdl_laws.specs.Runs.{IsRun, last}
use Rattle.hdl_laws.specs.Laws.{JoinsRuns}

pub run_joined : (w : World) (ts us : List Turn) → IsRun w ts → IsRun (last w ts) us → IsRun w (ts ++ us)
run_joined w [] us a b = b
run_joined w (t ∷ ts) us a b = (a.0, run_joined t.after ts us a.1 b)

pub last_joined : (w : World) (ts us : List Turn) → last w (ts ++ us) ≡ last (last w ts) us
last_joined w [] us = refl
last_joined w (t ∷ ts) us = last_joined t.after ts us

pub joins_runs : JoinsRuns
joins_runs w mid new es es' os os' a b =
    let run : IsRun (last w a.0) b.0 = subst (λ v. IsRun v b.0) (sym a.4) b.1 in (
      a.0 ++ b.0,
      run_joined w a.0 b.0 a.1 run,
      map-append (λ (t : Turn). t.event) a.0 b.0 ∙ (λ i. a.2 i ++ b.2 i),
      map-append (λ (t : Turn). t.outcome) a.0 b.0 ∙ (λ i. a.3 i ++ b.3 i),
      last_joined w a.0 b.0 ∙ ap (λ v. last v b.0) a.4 ∙ b.4,
    )
