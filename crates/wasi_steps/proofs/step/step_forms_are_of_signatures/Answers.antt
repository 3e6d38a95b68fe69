use Rattle.std.proofs.Common.{◌≡◌, ℕ, true, refl}
use Rattle.wasi_steps.specs.declared.step.TheConstants.{STEP_FORMS}
use Rattle.wasi_steps.specs.declared.guest_call.GuestCall.{GuestCall}
use Rattle.wasi_steps.specs.declared.guest_call.GuestCall.TheVariants as guest
use Rattle.wasi_steps.specs.declared.guest_call.TcpCall.TheVariants as tcp_call
use Rattle.wasi_steps.specs.declared.guest_call.UdpCall.TheVariants as udp_call
use Rattle.wasi_steps.specs.declared.guest_call.NameCall.TheVariants as name_call
use Rattle.wasi_steps.specs.declared.guest_call.StreamCall.TheVariants as stream_call
use Rattle.wasi_steps.specs.declared.guest_call.PipeCall.TheVariants as pipe_call
use Rattle.wasi_steps.specs.declared.guest_call.PollableCall.TheVariants as pollable_call
use Rattle.wasi_steps.specs.declared.guest_call.P3TcpCall.TheVariants as p3_tcp_call
use Rattle.wasi_steps.specs.declared.guest_call.P3UdpCall.TheVariants as p3_udp_call
use Rattle.wasi_steps.specs.declared.guest_call.P3NameCall.TheVariants as p3_name_call
use Rattle.wasi_steps.specs.declared.step.Step.{Step}
use Rattle.wasi_steps.specs.declared.step.Step.TheVariants as step
use Rattle.wasi_steps.specs.Forms.{has_form}
use Rattle.wasi_steps.proofs.step.step_forms_are_of_signatures.Goals as goal

each_call : (c : ℕ) (call : GuestCall) → has_form STEP_FORMS.now (step.Call c call) ≡ true
each_call c (guest.Tcp (tcp_call.Create _)) = refl
each_call c (guest.Udp (udp_call.Create _)) = refl
each_call c (guest.Names name_call.Network) = refl
each_call c (guest.Stream (stream_call.Flush _)) = refl
each_call c (guest.Pipe pipe_call.Sink) = refl
each_call c (guest.Pollable (pollable_call.Ready _)) = refl
each_call c (guest.P3Tcp (p3_tcp_call.Create _)) = refl
each_call c (guest.P3Udp (p3_udp_call.Create _)) = refl
each_call c (guest.P3Names (p3_name_call.Resolve _)) = refl
each_call c _ = refl

each : (s : Step) → has_form STEP_FORMS.now s ≡ true
each (step.Call c call) = each_call c call
each step.Turn = refl
each _ = refl

pub returns : goal.returns
returns c = record { each = each; no_other = refl }
