-- What the code's types are in the words of the definitions.
use Rattle.std.specs.Prelude.{◌≡◌, ℕ, Bool, List, Option, Some, None, IsTrue}
use Rattle.hdl_auth.specs.declared.algorithm.Algorithm.{Algorithm}
use Rattle.hdl_msg.specs.Codes.{response_number}
use Rattle.hdl_msg.specs.Message.{Content}
use Rattle.hdl_value.specs.declared.wire.Wire.{Wire}
use Rattle.hdl_tenants.specs.Register.{algorithm, hosts, site, wire}
use Rattle.hdl_ops.specs.declared.admit.Admitted.{Admitted}
use Rattle.hdl_ops.specs.declared.admit.Admitted.TheVariants as admitted
use Rattle.hdl_ops.specs.declared.decision.Decision.{Decision}
use Rattle.hdl_ops.specs.declared.decision.Level.{Level}
use Rattle.hdl_ops.specs.declared.decision.Level.TheVariants as level
use Rattle.hdl_ops.specs.declared.decision.Proof.{Proof}
use Rattle.hdl_ops.specs.declared.decision.TableView.{TableView}
use Rattle.hdl_ops.specs.declared.owner.Owner.{Owner}
use Rattle.hdl_ops.specs.Admission.{refusal}
use Rattle.hdl_ops.specs.Decisions as d
use Rattle.hdl_ops.specs.Proven as proven
use Rattle.hdl_ops.specs.Replies.{fits}
use Rattle.hdl_ops.specs.declared.requests.Response.{Response}
use Rattle.hdl_ops.specs.Requests as requests
use Rattle.hdl_ops.specs.Requests.{sent_handle}
use Rattle.hdl_ops.specs.TableViews as views

-- the prefixes that are hosted for the owner
abbrev pub hosted_by : Owner → List ℕ → Bool
hosted_by o = hosts o.tenants.now o.publisher

-- the layout that is spoken on the owner's lanes
abbrev pub wire_by : Owner → Wire
wire_by o = wire o.tenants.now o.publisher

-- the site information that is told on the owner's lanes
abbrev pub site_by : Owner → Option (List ℕ)
site_by o = d.told_by (wire_by o) (site o.tenants.now o.publisher)

-- the hash functions of prefixes on the owner's lanes
abbrev pub algorithms_by : Owner → List ℕ → Algorithm
algorithms_by o = algorithm o.tenants.now o.publisher

abbrev pub decision_of : Decision → d.Decision
decision_of x = record { code = response_number x.code; content = x.content; change = x.change }

abbrev pub table_view_of : TableView → views.TableView
table_view_of s = record { there = s.there; values = s.values.items; names = s.names.items }

abbrev pub response_view : Response → requests.Response
response_view a = record { kind = a.kind.now; handle = a.handle.now; index = a.index; answer = a.answer.now }

abbrev pub proof_of : Proof → proven.Proof
proof_of p = record { response = response_view p.response; nonce = p.nonce.now; digest = p.digest.now }

abbrev pub level_of : Level → d.Level
level_of level.Anyone = d.Anyone
level_of (level.Proven p) = d.Proven (proof_of p)

-- what comes of the tests before the table is looked at
abbrev pub IsAdmitted : (List ℕ → Bool) → Content → Admitted → Type 0
IsAdmitted hosted r (admitted.Refused x) = (refusal hosted r ≡ Some (response_number x.code)) × (decision_of x ≡ d.refusal_decision r (response_number x.code)) × ((a : Algorithm) → IsTrue (fits a r x.content)) × (x.change ≡ None)
IsAdmitted hosted r (admitted.Passed name) = (refusal hosted r ≡ None) × (name ≡ sent_handle r.operation)
