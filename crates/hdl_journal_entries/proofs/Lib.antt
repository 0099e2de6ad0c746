mod Codecs
mod Loops
mod Chains
mod Requests
