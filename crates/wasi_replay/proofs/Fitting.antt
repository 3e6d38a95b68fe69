-- The tests of which answers fit decide it.
use Rattle.std.specs.Prelude.{◌↔◌, IsTrue, ⊤}
use Rattle.std.proofs.Common.{ℕ, ◌≤◌, ◌&&◌, nat_le, Bool, true, false, length, refl, arith}
use Rattle.std.proofs.lemmas.Bool.{and_parts, false≢true}
use Rattle.std.proofs.lemmas.Bool.Decides.{nat_tests}
use Rattle.wasi_addr.specs.declared.address.ShutdownType.TheVariants.{Both}
use Rattle.wasi_world.specs.declared.call.Call.{Call}
use Rattle.wasi_world.specs.declared.call.Call.TheVariants as call
use Rattle.wasi_world.specs.declared.call.Entry.{Entry}
use Rattle.wasi_world.specs.declared.call.Told.{Told}
use Rattle.wasi_world.specs.declared.call.Told.TheVariants.{Pending, Done, Yes, No, Code, Addr, Arrived, Bytes, Took, Datagram, Value, Names}
use Rattle.wasi_world.specs.Fits.{IsVerdict, IsNames, IsDone, IsDoneOrCode, IsPolled, IsReady, IsAddr, IsArrival, IsRead, IsWritten, IsDatagram, IsValue, Fits}
use Rattle.wasi_replay.specs.Recorded.{IsSingle, FitsEntry, is_verdict, is_names, is_done, is_done_or_code, is_polled, is_ready, is_addr, is_arrival, is_read, is_written, is_datagram, is_value, answer_fits, is_single, fits_entry}

yes : IsTrue true ↔ ⊤
yes = (λ h. tt, λ h. refl)

no : IsTrue false ↔ ⊥
no = (λ h. false≢true h, λ h. absurd h)

le_decides : (m n : ℕ) → IsTrue (nat_le m n) ↔ (m ≤ n)
le_decides m n = (λ h. grind (arith, nat_tests), λ h. grind (arith, nat_tests))

both_decide : {P Q : Type 0} (b c : Bool) → IsTrue b ↔ P → IsTrue c ↔ Q → IsTrue (b && c) ↔ (P × Q)
both_decide b c p q = (λ h. let both = and_parts b c h in (p.0 both.0, q.0 both.1), λ h. rw (p.1 h.0, q.1 h.1) refl)

verdict : (t : Told) → IsTrue (is_verdict t) ↔ IsVerdict t
verdict Pending = yes
verdict Yes = yes
verdict No = yes
verdict _ = no

names : (t : Told) → IsTrue (is_names t) ↔ IsNames t
names Pending = yes
names (Names _) = yes
names (Code _) = yes
names _ = no

done : (t : Told) → IsTrue (is_done t) ↔ IsDone t
done Done = yes
done _ = no

done_or_code : (t : Told) → IsTrue (is_done_or_code t) ↔ IsDoneOrCode t
done_or_code Done = yes
done_or_code (Code _) = yes
done_or_code _ = no

polled : (t : Told) → IsTrue (is_polled t) ↔ IsPolled t
polled Pending = yes
polled Done = yes
polled (Code _) = yes
polled _ = no

ready : (t : Told) → IsTrue (is_ready t) ↔ IsReady t
ready Pending = yes
ready Done = yes
ready _ = no

addr : (t : Told) → IsTrue (is_addr t) ↔ IsAddr t
addr (Addr _) = yes
addr (Code _) = yes
addr _ = no

arrival : (t : Told) → IsTrue (is_arrival t) ↔ IsArrival t
arrival Pending = yes
arrival (Arrived _) = yes
arrival (Code _) = yes
arrival _ = no

read : (size : ℕ) (t : Told) → IsTrue (is_read size t) ↔ IsRead size t
read size Pending = yes
read size (Bytes bytes) = le_decides (length bytes) size
read size (Code _) = yes
read size _ = no

written : (offered : ℕ) (t : Told) → IsTrue (is_written offered t) ↔ IsWritten offered t
written offered Pending = yes
written offered (Took bytes) = both_decide _ _ (le_decides 1 (length bytes)) (le_decides (length bytes) offered)
written offered (Code _) = yes
written offered _ = no

datagram : (t : Told) → IsTrue (is_datagram t) ↔ IsDatagram t
datagram Pending = yes
datagram (Datagram _ _) = yes
datagram (Code _) = yes
datagram _ = no

value : (t : Told) → IsTrue (is_value t) ↔ IsValue t
value (Value _) = yes
value (Code _) = yes
value _ = no

pub answer_decides : (c : Call) (t : Told) → IsTrue (answer_fits c t) ↔ Fits c t
answer_decides (call.Check _ _ _) t = verdict t
answer_decides (call.Lookup _) t = names t
answer_decides (call.TcpCreate _ _) t = done_or_code t
answer_decides (call.UdpCreate _ _) t = done_or_code t
answer_decides (call.UdpWritable _) t = polled t
answer_decides (call.Local _) t = addr t
answer_decides (call.Peer _) t = addr t
answer_decides (call.Bind _ _) t = done_or_code t
answer_decides (call.UdpBind _ _) t = done_or_code t
answer_decides (call.UdpConnect _ _) t = done_or_code t
answer_decides (call.Listen _ _) t = done_or_code t
answer_decides (call.SetBacklog _ _) t = done_or_code t
answer_decides (call.Connect _ _) t = polled t
answer_decides (call.Accept _) t = arrival t
answer_decides (call.Hand _ _) t = done t
answer_decides (call.Refuse _ _) t = done t
answer_decides (call.Read _ size) t = read size t
answer_decides (call.ReadReady _) t = ready t
answer_decides (call.WriteReady _) t = ready t
answer_decides (call.Write _ offered) t = written offered t
answer_decides (call.Shutdown _ _) t = done t
answer_decides (call.UdpDisconnect _) t = done_or_code t
answer_decides (call.Send _ _ _) t = polled t
answer_decides (call.Recv _) t = datagram t
answer_decides (call.GetOption _ _) t = value t
answer_decides (call.SetOption _ _ _) t = done_or_code t
answer_decides (call.Close _) t = done t
answer_decides (call.Made _ _ _ _) t = done t

single_decides : (c : Call) → IsTrue (is_single c) ↔ IsSingle c
single_decides (call.Shutdown _ Both) = no
single_decides _ = yes

pub entry_decides : (e : Entry) → IsTrue (fits_entry e) ↔ FitsEntry e
entry_decides e = both_decide _ _ (answer_decides e.call e.answer) (single_decides e.call)
