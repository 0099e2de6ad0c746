use Rattle.hdl_scripts.proofs.lanes.doors.packets_at.Given as goal

abbrev pub ghosts-run_packets : goal.ghosts-run_packets
ghosts-run_packets g a = record { ends = a.pair.ends.items }
