mod Crashes
mod Kept
mod Prepared
mod Sent
mod Settled
mod Undoing
