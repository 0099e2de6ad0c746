-- What a door in memory tells.
use Rattle.std.specs.Prelude.{take}
use Rattle.hdl_workers.specs.declared.memory.MemoryConnection.{MemoryConnection}
use Rattle.hdl_workers.specs.Door.{Connection}

abbrev pub connection_of : MemoryConnection → Connection
connection_of c = record { read = take c.at c.incoming.items; written = c.written.items; broken = c.broken }
