use Rattle.wasi_recorder.proofs.front.replay_front.Given as goal

-- the log that is replayed
abbrev pub ghosts-replay_front_on : goal.ghosts-replay_front_on
ghosts-replay_front_on g a = record { recorded = a.recorded.items }
