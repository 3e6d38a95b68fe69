-- The texts of generated lines.
use Rattle.wasi_run.proofs.Words.{OnOk, Some, Step, codes, decimal, is_ok, if◌then◌else◌, ◌≡◌, ℕ, List, ◌++◌, Result, Ok, Err, refl, ap, sym, subst, ◌∙◌, append_assoc, bytes_text, slice_index_or}
use Rattle.std.specs.Fmt.{digits}
use Rattle.wasi_addr.specs.declared.address.ShutdownType.TheVariants.{Both}
use Rattle.wasi_addr.specs.declared.address.SocketAddressFamily.TheVariants.{Ipv4}
use Rattle.wasi_steps.specs.declared.step.Step.TheVariants as step
use Rattle.wasi_steps.specs.declared.guest_call.GuestCall.TheVariants as guest
use Rattle.wasi_steps.specs.declared.guest_call.TcpCall.TheVariants as tcp_call
use Rattle.wasi_steps.specs.declared.guest_call.UdpCall.TheVariants as udp_call
use Rattle.wasi_steps.specs.declared.guest_call.NameCall.TheVariants as name_call
use Rattle.wasi_steps.specs.declared.guest_call.StreamCall.TheVariants as stream_call
use Rattle.wasi_steps.specs.declared.guest_call.PollableCall.TheVariants as pollable_call
use Rattle.wasi_steps.specs.declared.guest_call.P3TcpCall.TheVariants as p3_tcp_call
use Rattle.wasi_steps.specs.declared.guest_call.P3UdpCall.TheVariants as p3_udp_call
use Rattle.drawn_scripts.specs.Generate.{call, loopback, script_line}

-- what was written is the line
pub written : {T E : Type 0} (r : Result T E) (now old text line : List ℕ) → OnOk r (now ≡ old ++ text) → text ≡ line → OnOk r (now ≡ old ++ line)
written (Ok t) now old text line h e = h ∙ ap (λ more. old ++ more) e
written (Err e) now old text line h f = tt

-- the same of a text that is pushed
pub pushed : {T E : Type 0} (r : Result T E) (now old text line : List ℕ) → now ≡ (if is_ok r then old ++ text else old) → text ≡ line → OnOk r (now ≡ old ++ line)
pushed (Ok t) now old text line h e = h ∙ ap (λ more. old ++ more) e
pushed (Err e) now old text line h f = tt

-- the line at a place of a block
pub at_place : {T E : Type 0} (r : Result T E) (now old : List ℕ) (steps : List Step) (none : Step) (place at : ℕ) → place ≡ at
    → OnOk r (now ≡ old ++ script_line (slice_index_or steps at none)) → OnOk r (now ≡ old ++ script_line (slice_index_or steps place none))
at_place r now old steps none place at e h =
    let P : ℕ → Type 0 = λ p. OnOk r (now ≡ old ++ script_line (slice_index_or steps p none)) in
    subst P (sym e) h

-- numbers as text
decimal-0 : decimal 0 ≡ codes "0"
unfolding digits
decimal-0 = refl

decimal-1 : decimal 1 ≡ codes "1"
unfolding digits
decimal-1 = refl

decimal-4 : decimal 4 ≡ codes "4"
unfolding digits
decimal-4 = refl

decimal-127 : decimal 127 ≡ codes "127"
unfolding digits
decimal-127 = refl

-- == lines with no bytes
pub create_line : codes "0 tcp-create 4\n" ≡ script_line (call (guest.Tcp (tcp_call.Create Ipv4)))
create_line = rw (decimal-0, decimal-4) refl

pub create3_line : codes "0 p3-tcp-create 4\n" ≡ script_line (call (guest.P3Tcp (p3_tcp_call.Create Ipv4)))
create3_line = rw (decimal-0, decimal-4) refl

pub udp_create_line : codes "0 udp-create 4\n" ≡ script_line (call (guest.Udp (udp_call.Create Ipv4)))
udp_create_line = rw (decimal-0, decimal-4) refl

pub udp_create3_line : codes "0 p3-udp-create 4\n" ≡ script_line (call (guest.P3Udp (p3_udp_call.Create Ipv4)))
udp_create3_line = rw (decimal-0, decimal-4) refl

pub connect_line : (s port : ℕ) → codes "0 tcp-start-connect " ++ (decimal s ++ (codes " 1 4 127 0 0 1 " ++ (decimal port ++ codes "\n"))) ≡ script_line (call (guest.Tcp (tcp_call.StartConnect s 1 (loopback port))))
connect_line s port = simp (append_assoc, decimal-0, decimal-1, decimal-4, decimal-127) refl

pub connect3_line : (s port : ℕ) → codes "0 p3-tcp-connect " ++ (decimal s ++ (codes " 4 127 0 0 1 " ++ (decimal port ++ codes "\n"))) ≡ script_line (call (guest.P3Tcp (p3_tcp_call.Connect s (loopback port))))
connect3_line s port = simp (append_assoc, decimal-0, decimal-1, decimal-4, decimal-127) refl

pub shutdown_line : (s : ℕ) → codes "0 tcp-shutdown " ++ (decimal s ++ codes " both\n") ≡ script_line (call (guest.Tcp (tcp_call.Shutdown s Both)))
shutdown_line s = simp (append_assoc, decimal-0) refl

pub cancel_line : (n : ℕ) → codes "cancel " ++ (decimal n ++ codes "\n") ≡ script_line (step.Cancel n)
cancel_line n = refl

pub network_line : codes "0 network\n" ≡ script_line (call (guest.Names name_call.Network))
network_line = rw decimal-0 refl

-- == lines that name one handle
abbrev pub named : (word : List ℕ) → ℕ → List ℕ
named word h = codes "0 " ++ (word ++ (codes " " ++ (decimal h ++ codes "\n")))

pub finish_line : (s : ℕ) → named (codes "tcp-finish-connect") s ≡ script_line (call (guest.Tcp (tcp_call.FinishConnect s)))
finish_line s = rw decimal-0 refl

pub check_line : (s : ℕ) → named (codes "check-write") s ≡ script_line (call (guest.Stream (stream_call.CheckWrite s)))
check_line s = rw decimal-0 refl

pub drop_line : (s : ℕ) → named (codes "drop") s ≡ script_line (call (guest.Pollable (pollable_call.Drop s)))
drop_line s = rw decimal-0 refl

pub send_line : (s : ℕ) → named (codes "p3-tcp-send") s ≡ script_line (call (guest.P3Tcp (p3_tcp_call.Send s)))
send_line s = rw decimal-0 refl

pub remote_line : (s : ℕ) → named (codes "p3-tcp-remote-address") s ≡ script_line (call (guest.P3Tcp (p3_tcp_call.RemoteAddress s)))
remote_line s = rw decimal-0 refl

pub result_line : (s : ℕ) → named (codes "p3-result") s ≡ script_line (call (guest.P3Tcp (p3_tcp_call.Result s)))
result_line s = rw decimal-0 refl

pub listening_line : (s : ℕ) → named (codes "p3-tcp-is-listening") s ≡ script_line (call (guest.P3Tcp (p3_tcp_call.IsListening s)))
listening_line s = rw decimal-0 refl

pub receive_line : (s : ℕ) → named (codes "p3-udp-receive") s ≡ script_line (call (guest.P3Udp (p3_udp_call.Receive s)))
receive_line s = rw decimal-0 refl

pub subscribe_line : (s : ℕ) → named (codes "subscribe") s ≡ script_line (call (guest.Pollable (pollable_call.Subscribe s)))
subscribe_line s = rw decimal-0 refl

-- == lines with bytes: the front of each, and then the bytes
abbrev pub write_front : ℕ → List ℕ
write_front s = codes "0 write " ++ (decimal s ++ codes " ")

abbrev pub write3_front : ℕ → List ℕ
write3_front s = codes "0 p3-write " ++ (decimal s ++ codes " ")

abbrev pub datagram_front : ℕ → ℕ → List ℕ
datagram_front s port = codes "0 p3-udp-send " ++ (decimal s ++ (codes " to 4 127 0 0 1 " ++ (decimal port ++ codes " ")))

pub write_line : (s : ℕ) (bytes : List ℕ) → write_front s ++ (bytes_text bytes ++ codes "\n") ≡ script_line (call (guest.Stream (stream_call.Write s bytes)))
write_line s bytes = simp (append_assoc, decimal-0) refl

pub write3_line : (s : ℕ) (bytes : List ℕ) → write3_front s ++ (bytes_text bytes ++ codes "\n") ≡ script_line (call (guest.P3Tcp (p3_tcp_call.Write s bytes)))
write3_line s bytes = simp (append_assoc, decimal-0) refl

pub datagram_line : (s port : ℕ) (bytes : List ℕ) → datagram_front s port ++ (bytes_text bytes ++ codes "\n") ≡ script_line (call (guest.P3Udp (p3_udp_call.Send s (record { bytes = bytes; remote_address = Some (loopback port) }))))
datagram_line s port bytes = simp (append_assoc, decimal-0, decimal-1, decimal-4, decimal-127) refl

-- the two pieces of such a line
pub pieces : {T E : Type 0} (r : Result T E) (now first old front bytes line : List ℕ) → first ≡ old ++ front → OnOk r (now ≡ first ++ bytes) → front ++ bytes ≡ line → OnOk r (now ≡ old ++ line)
pieces (Ok t) now first old front bytes line f h e = h ∙ ap (λ text. text ++ bytes) f ∙ append_assoc old front bytes ∙ ap (λ more. old ++ more) e
pieces (Err e) now first old front bytes line f h g = tt

-- the three pieces of what ends such a line
pub ended : {T E : Type 0} (r : Result T E) (old first now : List ℕ) (bytes : List ℕ) → first ≡ old ++ bytes_text bytes → now ≡ (if is_ok r then first ++ codes "\n" else first) → OnOk r (now ≡ old ++ (bytes_text bytes ++ codes "\n"))
ended (Ok t) old first now bytes f h = h ∙ ap (λ text. text ++ codes "\n") f ∙ append_assoc old (bytes_text bytes) (codes "\n")
ended (Err e) old first now bytes f h = tt
