use Rattle.wasi_recorder.proofs.replaying.replay.Given as goal

-- the log that is replayed
abbrev pub ghosts-replay_on : goal.ghosts-replay_on
ghosts-replay_on g a = record { recorded = a.recorded.items }
