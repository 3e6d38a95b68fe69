-- What a poll of the pending call leaves where that failed with a code.
use Rattle.std.specs.Prelude.{◌≡◌, ℕ, List, None}
use Rattle.wasi_addr.specs.declared.code.ErrorCode.{ErrorCode}
use Rattle.wasi_world.specs.declared.call.Entry.{Entry}
use Rattle.wasi_udp.specs.Connect.{with_given}
use Rattle.tcp_records.specs.declared.tcp_binding.InProgress.TheVariants as doing
use Rattle.tcp_records.specs.declared.tcp_listening.Listening.TheVariants as listening
use Rattle.host_store.specs.declared.machine.Machine.{Machine}
use Rattle.host_store.specs.declared.store.StandingCall.{StandingCall}
use Rattle.udp_records.specs.declared.udp.UdpInProgress.TheVariants as udp_doing
use Rattle.tcp_records.specs.Listening.{with_listening}
use Rattle.tcp_records.specs.Sockets.{with_progress}
use Rattle.udp_records.specs.Udp.{with_udp_progress}
use Rattle.wasi_steps.specs.declared.reply.CodeWord.{CodeWord}
use Rattle.wasi_walks.specs.Answered.{putting}
use Rattle.wasi_walks.specs.Waiting.{BindFailed, CallFails, CreateFailed, ListenFailed, StandingFails, UdpBindFailed, UdpConnect3Failed, UdpConnectFailed, nothing_stands}
use Rattle.wasi_causes.specs.GivenUp.{giving_back}
use Rattle.wasi_causes.specs.StreamCauses.{given_by}
use Rattle.wasi_causes.specs.Udp.{putting_udp}

-- The machine afterwards: nothing is pending, and of the records only that of the call has changed. Of a bind and of a listen nothing
-- is in progress, and else the socket is as it was, which has no network socket while it is about to listen; of a create nothing is
-- left, its record was given back; and of datagram streams no connect is in progress, and the remote address is as it was where a
-- check was answered no, and else what was reported then. A call of another kind doesn't fail so.
abbrev pub left_failed : (m : Machine) → {entries : List Entry} {call : StandingCall} {c : ErrorCode} → CallFails m entries call c → Machine
left_failed m (BindFailed place face r op c at is why) = putting (nothing_stands m) place (with_progress r doing.Nothing)
left_failed m (ListenFailed place handle r op c at is why) = putting (nothing_stands m) place (with_listening r listening.Not)
left_failed m (CreateFailed place face create c at why) = giving_back (nothing_stands m) place
left_failed m (UdpBindFailed place face o op c at is why) = putting_udp (nothing_stands m) place (with_udp_progress o udp_doing.Nothing)
left_failed m (UdpConnect3Failed place o op c at is why) = putting_udp (nothing_stands m) place (record o { inner = with_given o.inner (given_by why); connecting = None })
left_failed m (UdpConnectFailed place handle o op c at is why) = putting_udp (nothing_stands m) place (record o { inner = with_given o.inner (given_by why); connecting = None })

-- The pending call failed with a code of this word, and this is what it left.
pub record FailureLeaves (m : Machine) (n : ℕ) (entries : List Entry) (word : CodeWord) (after : Machine) : Type 0 where
  pub fails : StandingFails m n entries word
  pub left : after ≡ left_failed m fails.cause
