pub mod Partitioned
