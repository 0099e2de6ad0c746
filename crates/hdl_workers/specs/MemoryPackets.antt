-- What a place for datagrams in memory tells.
use Rattle.std.specs.Prelude.{ℕ, List}
use Rattle.hdl_workers.specs.declared.memory_packets.Datagram.{Datagram}

abbrev pub datagram_of : Datagram → ℕ × List ℕ
datagram_of l = (l.peer, l.octets.items)
