-- Which entries a log may have.
use Rattle.std.specs.Prelude.{⊤, ℕ, ◌&&◌, nat_le, Bool, true, false, length}
use Rattle.wasi_addr.specs.declared.address.ShutdownType.TheVariants.{Both}
use Rattle.wasi_world.specs.declared.call.Call.{Call}
use Rattle.wasi_world.specs.declared.call.Call.TheVariants.{Check, Lookup, TcpCreate, UdpCreate, UdpWritable, Local, Peer, Bind, UdpBind, UdpConnect, Listen, SetBacklog, Connect, Accept, Hand, Refuse, Read, ReadReady, WriteReady, Write, Shutdown, UdpDisconnect, Send, Recv, GetOption, SetOption, Close, Made}
use Rattle.wasi_world.specs.declared.call.Entry.{Entry}
use Rattle.wasi_world.specs.declared.call.Told.{Told}
use Rattle.wasi_world.specs.declared.call.Told.TheVariants.{Pending, Done, Yes, No, Code, Addr, Arrived, Bytes, Took, Datagram, Value, Names}
use Rattle.wasi_world.specs.Fits.{Fits}

-- each call but a shutdown of both halves at once, which is made as two
abbrev pub IsSingle : Call → Type 0
IsSingle (Shutdown _ Both) = ⊥
IsSingle _ = ⊤

-- the answer fits the call, and the call is one that is made
abbrev pub FitsEntry : Entry → Type 0
FitsEntry e = Fits e.call e.answer × IsSingle e.call

-- == the same as a test
abbrev pub is_verdict : Told → Bool
is_verdict Pending = true
is_verdict Yes = true
is_verdict No = true
is_verdict _ = false

abbrev pub is_names : Told → Bool
is_names Pending = true
is_names (Names _) = true
is_names (Code _) = true
is_names _ = false

abbrev pub is_done : Told → Bool
is_done Done = true
is_done _ = false

abbrev pub is_done_or_code : Told → Bool
is_done_or_code Done = true
is_done_or_code (Code _) = true
is_done_or_code _ = false

abbrev pub is_polled : Told → Bool
is_polled Pending = true
is_polled Done = true
is_polled (Code _) = true
is_polled _ = false

abbrev pub is_ready : Told → Bool
is_ready Pending = true
is_ready Done = true
is_ready _ = false

abbrev pub is_addr : Told → Bool
is_addr (Addr _) = true
is_addr (Code _) = true
is_addr _ = false

abbrev pub is_arrival : Told → Bool
is_arrival Pending = true
is_arrival (Arrived _) = true
is_arrival (Code _) = true
is_arrival _ = false

abbrev pub is_read : ℕ → Told → Bool
is_read size Pending = true
is_read size (Bytes bytes) = nat_le (length bytes) size
is_read size (Code _) = true
is_read size _ = false

abbrev pub is_written : ℕ → Told → Bool
is_written offered Pending = true
is_written offered (Took bytes) = nat_le 1 (length bytes) && nat_le (length bytes) offered
is_written offered (Code _) = true
is_written offered _ = false

abbrev pub is_datagram : Told → Bool
is_datagram Pending = true
is_datagram (Datagram _ _) = true
is_datagram (Code _) = true
is_datagram _ = false

abbrev pub is_value : Told → Bool
is_value (Value _) = true
is_value (Code _) = true
is_value _ = false

abbrev pub answer_fits : Call → Told → Bool
answer_fits (Check _ _ _) told = is_verdict told
answer_fits (Lookup _) told = is_names told
answer_fits (TcpCreate _ _) told = is_done_or_code told
answer_fits (UdpCreate _ _) told = is_done_or_code told
answer_fits (UdpWritable _) told = is_polled told
answer_fits (Local _) told = is_addr told
answer_fits (Peer _) told = is_addr told
answer_fits (Bind _ _) told = is_done_or_code told
answer_fits (UdpBind _ _) told = is_done_or_code told
answer_fits (UdpConnect _ _) told = is_done_or_code told
answer_fits (Listen _ _) told = is_done_or_code told
answer_fits (SetBacklog _ _) told = is_done_or_code told
answer_fits (Connect _ _) told = is_polled told
answer_fits (Accept _) told = is_arrival told
answer_fits (Hand _ _) told = is_done told
answer_fits (Refuse _ _) told = is_done told
answer_fits (Read _ size) told = is_read size told
answer_fits (ReadReady _) told = is_ready told
answer_fits (WriteReady _) told = is_ready told
answer_fits (Write _ offered) told = is_written offered told
answer_fits (Shutdown _ _) told = is_done told
answer_fits (UdpDisconnect _) told = is_done_or_code told
answer_fits (Send _ _ _) told = is_polled told
answer_fits (Recv _) told = is_datagram told
answer_fits (GetOption _ _) told = is_value told
answer_fits (SetOption _ _ _) told = is_done_or_code told
answer_fits (Close _) told = is_done told
answer_fits (Made _ _ _ _) told = is_done told

abbrev pub is_single : Call → Bool
is_single (Shutdown _ Both) = false
is_single _ = true

abbrev pub fits_entry : Entry → Bool
fits_entry e = answer_fits e.call e.answer && is_single e.call
