-- The scripts that are generated.
use Rattle.std.specs.Prelude.{ℕ, zero, suc, ◌+◌, ◌*◌, ◌/◌, ◌%◌, List, [], ◌∷◌, ◌++◌, Some, codes, replicate, slice_index_or}
use Rattle.wasi_addr.specs.declared.address.IpSocketAddress.{IpSocketAddress}
use Rattle.wasi_addr.specs.declared.address.IpSocketAddress.TheVariants as socket
use Rattle.wasi_addr.specs.declared.address.ShutdownType.TheVariants.{Both}
use Rattle.wasi_addr.specs.declared.address.SocketAddressFamily.TheVariants.{Ipv4}
use Rattle.wasi_steps.specs.declared.guest_call.GuestCall.{GuestCall}
use Rattle.wasi_steps.specs.declared.guest_call.GuestCall.TheVariants as guest
use Rattle.wasi_steps.specs.declared.guest_call.TcpCall.TheVariants as tcp_call
use Rattle.wasi_steps.specs.declared.guest_call.UdpCall.TheVariants as udp_call
use Rattle.wasi_steps.specs.declared.guest_call.NameCall.TheVariants as name_call
use Rattle.wasi_steps.specs.declared.guest_call.StreamCall.TheVariants as stream_call
use Rattle.wasi_steps.specs.declared.guest_call.PollableCall.TheVariants as pollable_call
use Rattle.wasi_steps.specs.declared.guest_call.P3TcpCall.TheVariants as p3_tcp_call
use Rattle.wasi_steps.specs.declared.guest_call.P3UdpCall.TheVariants as p3_udp_call
use Rattle.drawn_scripts.specs.declared.drawn.Drawn.{Drawn}
use Rattle.drawn_scripts.specs.declared.drawn.Drawn.TheVariants.{OfTwo, OfBoth}
use Rattle.drawn_scripts.specs.declared.drawn.Block.{Block}
use Rattle.drawn_scripts.specs.declared.drawn.Block.TheVariants as of
use Rattle.wasi_steps.specs.declared.step.Step.{Step}
use Rattle.wasi_steps.specs.declared.step.Step.TheVariants as step
use Rattle.wasi_steps.specs.Steps.{line_of}

-- the number that is drawn after another
abbrev pub next_drawn : ℕ → ℕ
next_drawn x = (x * 6364136223846793005 + 1442695040888963407) % 18446744073709551616

-- the numbers drawn from a seed: each block has the next
abbrev pub drawn : ℕ → ℕ → ℕ
drawn seed zero = seed
drawn seed (suc n) = next_drawn (drawn seed n)

-- the port, how many bytes and which byte a number stands for
abbrev pub port_of : ℕ → ℕ
port_of x = 1 + (x / 8589934592) % 65535

abbrev pub count_of : ℕ → ℕ
count_of x = 1 + x % 64

abbrev pub byte_of : ℕ → ℕ
byte_of x = x / 72057594037927936

-- 127.0.0.1
abbrev pub loopback : ℕ → IpSocketAddress
loopback port = socket.Ipv4 (record { port = port; address = (127, 0, 0, 1) })

-- the bytes that a block writes or sends
abbrev pub bytes_of : ℕ → List ℕ
bytes_of x = replicate (count_of x) (byte_of x)

abbrev pub call : GuestCall → Step
call c = step.Call 0 c

-- == the blocks: each makes three handles, the first of which is this, and drops all three
-- a TCP socket of 0.2 is connected, and written to by its stream
abbrev pub tcp2_block : ℕ → ℕ → List Step
tcp2_block s x =
    call (guest.Tcp (tcp_call.Create Ipv4))
    ∷ call (guest.Tcp (tcp_call.StartConnect s 1 (loopback (port_of x))))
    ∷ call (guest.Tcp (tcp_call.FinishConnect s))
    ∷ call (guest.Stream (stream_call.CheckWrite (s + 2)))
    ∷ call (guest.Stream (stream_call.Write (s + 2) (bytes_of x)))
    ∷ call (guest.Tcp (tcp_call.Shutdown s Both))
    ∷ call (guest.Pollable (pollable_call.Drop (s + 1)))
    ∷ call (guest.Pollable (pollable_call.Drop (s + 2)))
    ∷ call (guest.Pollable (pollable_call.Drop s))
    ∷ []

-- a TCP socket of 0.3 is connected, and written to by its end, whose drop fills the result
abbrev pub tcp3_block : ℕ → ℕ → List Step
tcp3_block s x =
    call (guest.P3Tcp (p3_tcp_call.Create Ipv4))
    ∷ call (guest.P3Tcp (p3_tcp_call.Connect s (loopback (port_of x))))
    ∷ call (guest.P3Tcp (p3_tcp_call.Send s))
    ∷ call (guest.P3Tcp (p3_tcp_call.Write (s + 1) (bytes_of x)))
    ∷ call (guest.P3Tcp (p3_tcp_call.RemoteAddress s))
    ∷ call (guest.Pollable (pollable_call.Drop (s + 1)))
    ∷ call (guest.P3Tcp (p3_tcp_call.Result (s + 2)))
    ∷ call (guest.P3Tcp (p3_tcp_call.IsListening s))
    ∷ call (guest.Pollable (pollable_call.Drop s))
    ∷ []

-- a UDP socket of 0.3 sends a datagram, and waits for one until the line after gives it up; one of 0.2 is watched
abbrev pub udp_block : ℕ → ℕ → ℕ → List Step
udp_block s x before =
    call (guest.P3Udp (p3_udp_call.Create Ipv4))
    ∷ call (guest.P3Udp (p3_udp_call.Send s (record { bytes = bytes_of x; remote_address = Some (loopback (port_of x)) })))
    ∷ call (guest.P3Udp (p3_udp_call.Receive s))
    ∷ step.Cancel before
    ∷ call (guest.Udp (udp_call.Create Ipv4))
    ∷ call (guest.Pollable (pollable_call.Subscribe (s + 1)))
    ∷ call (guest.Pollable (pollable_call.Drop (s + 2)))
    ∷ call (guest.Pollable (pollable_call.Drop (s + 1)))
    ∷ call (guest.Pollable (pollable_call.Drop s))
    ∷ []

abbrev pub block : Block → ℕ → ℕ → ℕ → List Step
block of.Tcp2 s x before = tcp2_block s x
block of.Tcp3 s x before = tcp3_block s x
block of.Udp s x before = udp_block s x before

-- the step at one of the nine places, after this line
abbrev pub step_in : Block → ℕ → ℕ → ℕ → ℕ → Step
step_in kind s x before place = slice_index_or (block kind s x before) place (call (guest.Pollable (pollable_call.Drop s)))

-- which block stands at this number
abbrev pub one_of : ℕ → Block
one_of zero = of.Tcp2
one_of (suc zero) = of.Tcp3
one_of (suc (suc n)) = of.Udp

abbrev pub block_at : Drawn → ℕ → Block
block_at OfTwo i = of.Tcp2
block_at OfBoth i = one_of (i % 3)

-- the steps: a network, and then blocks of nine
abbrev pub generated_step : Drawn → ℕ → ℕ → Step
generated_step kind seed zero = call (guest.Names name_call.Network)
generated_step kind seed (suc k) = step_in (block_at kind (k / 9)) (2 + 3 * (k / 9)) (drawn seed (k / 9 + 1)) (suc k) (k % 9)

abbrev pub generated_steps : Drawn → ℕ → ℕ → List Step
generated_steps kind seed zero = []
generated_steps kind seed (suc k) = generated_steps kind seed k ++ generated_step kind seed k ∷ []

-- the line of a step with its newline
abbrev pub script_line : Step → List ℕ
script_line s = line_of s ++ codes "\n"

-- the text of these steps, a line for each
abbrev pub script_text : List Step → List ℕ
script_text [] = []
script_text (s ∷ steps) = script_line s ++ script_text steps

abbrev pub generated : Drawn → ℕ → ℕ → List ℕ
generated kind seed steps = script_text (generated_steps kind seed steps)
