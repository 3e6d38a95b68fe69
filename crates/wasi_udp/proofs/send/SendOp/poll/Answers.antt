use Rattle.std.proofs.Common.{refl}
use Rattle.std.proofs.lemmas.Bool.{false≢true}
use Rattle.wasi_world.proofs.Polls.{ended, polls_refused}
use Rattle.wasi_udp.specs.Send.{Ended}
use Rattle.wasi_udp.proofs.Sends.{is_send}
use Rattle.wasi_udp.proofs.send.SendOp.poll.Goals as goal

pub returns-in-Refused-clause-polled : goal.returns-in-Refused-clause-polled
returns-in-Refused-clause-polled g c = rw (← c.self.view_is, c.in-Refused.is) (λ going. polls_refused refl (ended 63 _ refl))

pub returns-in-CheckWildcard-clause-polled : goal.returns-in-CheckWildcard-clause-polled
returns-in-CheckWildcard-clause-polled g c = rw (← c.self.view_is) (λ going. rw (c.as_slice-bytes.ensures, c.remote-remote.ensures) at c.poll_wildcard.ensures.polled)

pub returns-in-Check-clause-polled : goal.returns-in-Check-clause-polled
returns-in-Check-clause-polled g c = rw (← c.self.view_is) (λ going. rw (c.as_slice-bytes.ensures, c.remote-remote.ensures) at c.poll_check.ensures.polled)

pub returns-in-Send-clause-polled : goal.returns-in-Send-clause-polled
returns-in-Send-clause-polled g c = rw (← c.self.view_is) (λ going. rw (c.as_slice-bytes.ensures, c.remote-remote.ensures) at c.poll_send.ensures.polled)

pub returns-in-Over-clause-polled : goal.returns-in-Over-clause-polled
returns-in-Over-clause-polled g c = rw (← c.self.view_is, c.in-Over.is) (λ going. absurd (false≢true going))

pub returns-in-Refused-clause-before : goal.returns-in-Refused-clause-before
returns-in-Refused-clause-before g c = rw (← c.self.view_is) (is_send _ _ _ _)

pub returns-in-Refused-clause-after : goal.returns-in-Refused-clause-after
returns-in-Refused-clause-after g c = record { last = refl; left = Ended }

pub returns-in-CheckWildcard-clause-before : goal.returns-in-CheckWildcard-clause-before
returns-in-CheckWildcard-clause-before g c = rw (← c.self.view_is) (is_send _ _ _ _)

pub returns-in-CheckWildcard-clause-after : goal.returns-in-CheckWildcard-clause-after
returns-in-CheckWildcard-clause-after g c = is_send _ _ _ _

pub returns-in-Check-clause-before : goal.returns-in-Check-clause-before
returns-in-Check-clause-before g c = rw (← c.self.view_is) (is_send _ _ _ _)

pub returns-in-Check-clause-after : goal.returns-in-Check-clause-after
returns-in-Check-clause-after g c = is_send _ _ _ _

pub returns-in-Send-clause-before : goal.returns-in-Send-clause-before
returns-in-Send-clause-before g c = rw (← c.self.view_is) (is_send _ _ _ _)

pub returns-in-Send-clause-after : goal.returns-in-Send-clause-after
returns-in-Send-clause-after g c = is_send _ _ _ _

pub returns-in-Over-clause-before : goal.returns-in-Over-clause-before
returns-in-Over-clause-before g c = rw (← c.self.view_is) (is_send _ _ _ _)

pub returns-in-Over-clause-after : goal.returns-in-Over-clause-after
returns-in-Over-clause-after g c = rw (← c.self.view_is) (is_send _ _ _ _)
