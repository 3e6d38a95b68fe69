use Rattle.host_streams.proofs.blocking.+write_rounds.Given as goal

-- proposed from what the function passes where it calls itself
abbrev pub decreases-write_rounds : goal.decreases-write_rounds
decreases-write_rounds g l = l.rounds
