-- What a decision reads of the table, as the table counts what it gives.
use Rattle.std.specs.Prelude.{ℕ, ◌+◌, max, map}
use Rattle.hdl_rows.specs.declared.reads.TheConstants.{CALL_OCTETS}
use Rattle.hdl_rows.specs.Heads.{head}
use Rattle.hdl_rows.specs.Reads.{values_octets}
use Rattle.hdl_msg.specs.Message.{Operation, resolution, list}
use Rattle.hdl_reach.specs.Cost.{Most, value_cost, heads_cost, names_cost}
use Rattle.hdl_cache.specs.Cost.{mask_cost}
use Rattle.hdl_ops.specs.declared.seeing.TheConstants.{READ_MAX}
use Rattle.hdl_ops.specs.Decisions.{Level, Anyone, Proven}
use Rattle.hdl_ops.specs.TableViews.{TableView}

-- one look at the heads of the handle that is named
abbrev pub cost_of_heads : TableView → ℕ
cost_of_heads s = CALL_OCTETS + values_octets (map head s.values)

-- ---- what a decision reads at most, of a table that has no more than this

-- the values that a resolution shows: as many as no message takes, and the one that passes them
abbrev pub shown_cost : Most → ℕ
shown_cost most = READ_MAX + value_cost most

-- what the reply to a request that is granted tells of the table
abbrev pub granted_cost : Operation → Most → ℕ
granted_cost (resolution handle indexes types) most = shown_cost most
granted_cost (list handle) most = names_cost most
granted_cost _ most = 0

-- the mask of the key that a proof names, and its value
abbrev pub key_cost : Most → ℕ
key_cost most = mask_cost most + value_cost most

-- the heads of the handle that is named, and what is granted: to anyone no list is; behind a proof also the key
abbrev pub decision_cost : Level → Operation → Most → ℕ
decision_cost Anyone (list handle) most = heads_cost most
decision_cost Anyone o most = heads_cost most + granted_cost o most
decision_cost (Proven p) o most = heads_cost most + (key_cost most + granted_cost o most)

-- the same whatever the operation: for anyone, and behind a proof

abbrev pub anyone_cost : Most → ℕ
anyone_cost most = heads_cost most + shown_cost most

abbrev pub proof_cost : Most → ℕ
proof_cost most = heads_cost most + (key_cost most + max (shown_cost most) (names_cost most))
