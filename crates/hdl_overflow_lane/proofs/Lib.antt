mod BookLemmas
mod FrameLemmas
mod JoiningLemmas
mod RunLemmas
mod TalkLemmas
