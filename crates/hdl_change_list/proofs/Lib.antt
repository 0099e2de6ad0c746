mod Sequence
