-- The definitions on logs of a listener: that of a run, which is licensed, and others, which are not.
use Rattle.wasi_walks.proofs.Words.{Accepting, Accepts, Call, Created, Entry, Give, Has, AsyncOperation, InProgress, IpSocketAddress, IsBoundSide, IsLicensed}
use Rattle.wasi_walks.proofs.Words.{IsMarkOf, Left, List, Machine, MayListen, None, OpId, Reply, SocketAddrUse, SocketAddressFamily, Some, GuestCall, Step}
use Rattle.wasi_walks.proofs.Words.{TcpRecord, TcpState, Told, [], accepted_record, accepted_socket, accepted_state, ap, arith, bind, entry}
use Rattle.wasi_walks.proofs.Words.{false, first_state, inl, inr, no_fields, number_fields, own_of, polls, port_of, refl, run, subst, sym, triple_fields}
use Rattle.wasi_walks.proofs.Words.{true, ℕ, ⊤, ◌++◌, ◌∷◌, ◌≡◌, ◌⊎◌}
use Rattle.wasi_walks.proofs.Lists.{has_back, has_last}
use Rattle.wasi_walks.proofs.licence.Runs.{whole_licensed}
use Rattle.wasi_walks.proofs.licence.Rows.{bind_log, bind_script, allowed, local_80}
use Rattle.wasi_walks.proofs.licence.Refused.{local_81, of_each, at_line}
use Rattle.wasi_world.specs.declared.call.HandleKind.TheVariants as kind
use Rattle.host_store.specs.declared.kind.Kind.TheVariants as slot
use Rattle.wasi_records.specs.declared.records.Record.TheVariants as rec
use Rattle.wasi_steps.specs.declared.guest_call.TcpCall.{TcpCall}

abbrev peer : ℕ → IpSocketAddress
peer port = IpSocketAddress.Ipv4 (record { port = port; address = (127, 0, 0, 1) })

-- the accept of the sixth line
abbrev sixth : OpId
sixth = record { step = 6; part = 1 }

-- == a socket is bound, listens and accepts
abbrev script : List Step
script = bind_script ++ (Step.Call 0 (GuestCall.Tcp (TcpCall.StartListen 2)) ∷ Step.Call 0 (GuestCall.Tcp (TcpCall.Accept 2)) ∷ [])

-- by this operation it listens
abbrev pub listens_by : OpId → ℕ → Told → List Entry
listens_by op backlog t = entry op (Call.Local (own_of 2)) (Told.Addr local_80)
    ∷ entry op (Call.Local (own_of 2)) (Told.Addr local_80)
    ∷ entry op (Call.Check 0 local_80 SocketAddrUse.TcpListen) Told.Yes
    ∷ entry op (Call.Listen (own_of 2) backlog) t
    ∷ []

abbrev listens : List Entry
listens = bind_log ++ listens_by (own_of 5) 128 Told.Done

-- the first arrival is refused
abbrev accepts : List Entry
accepts = listens
    ++ (entry sixth (Call.Accept (own_of 2)) (Told.Arrived (peer 7))
    ∷ entry sixth (Call.Check 0 (peer 7) SocketAddrUse.TcpAccept) Told.No
    ∷ entry sixth (Call.Refuse (own_of 2) (peer 7)) Told.Done
    ∷ entry sixth (Call.Accept (own_of 2)) (Told.Arrived (peer 8))
    ∷ entry sixth (Call.Check 0 (peer 8) SocketAddrUse.TcpAccept) Told.Yes
    ∷ entry sixth (Call.Hand (own_of 2) (peer 8)) Told.Done
    ∷ entry (own_of 6) (Call.Made 3 kind.Tcp2 (Some 2) (Some sixth)) Told.Done
    ∷ entry (own_of 6) (Call.Made 4 kind.Input (Some 3) (Some sixth)) Told.Done
    ∷ entry (own_of 6) (Call.Made 5 kind.Output (Some 3) (Some sixth)) Told.Done
    ∷ [])

abbrev pub listening_record : ℕ → InProgress → TcpRecord
listening_record backlog doing = record {
  inner = record { state = TcpState.Listening (own_of 2); family = SocketAddressFamily.Ipv4; backlog = backlog; bound = true; maker = 0 };
  side = Some (own_of 2);
  in_progress = doing;
  listening = Accepts (record { side = own_of 2; maker = 0; family = SocketAddressFamily.Ipv4; accept = Accepting.Idle });
  streams = None;
  dropped = false;
  maker = 0;
}

-- the listener, and the connection with its streams
abbrev accepted : Machine
accepted = record {
  table = record {
    next = 6;
    live = record { handle = 1; value = slot.Network; parent = None }
        ∷ record { handle = 2; value = slot.Tcp2 0; parent = None }
        ∷ record { handle = 3; value = slot.Tcp2 1; parent = None }
        ∷ record { handle = 4; value = slot.Input 1; parent = Some 3 }
        ∷ record { handle = 5; value = slot.Output 1; parent = Some 3 }
        ∷ [];
  };
  store = record {
    records = rec.Tcp (listening_record 128 (InProgress.Started AsyncOperation.Listen))
        ∷ rec.Tcp (accepted_record (accepted_socket SocketAddressFamily.Ipv4 0 (accepted_state sixth (peer 8)))).1
        ∷ [];
    jobs = [];
    standing = None;
    beside = [];
    limits = record { context = 0; most = 18446744073709551615 } ∷ [];
  };
}

abbrev replies : List Reply
replies = Reply.Ok (number_fields 1) ∷ Reply.Ok (number_fields 2) ∷ Reply.Ok no_fields ∷ Reply.Ok no_fields ∷ Reply.Ok no_fields ∷ Reply.Ok (triple_fields 3 4 5) ∷ []

accept_run : Left (run allowed [] first_state 1 script) accepts (Give (replies, accepted))
unfolding bind polls
accept_run = ((refl, refl, tt), ((refl, refl, tt), ((refl, refl, tt), ((refl, refl, tt), ((refl, refl, tt), ((refl, refl, tt), ((refl, refl, tt), ((refl, refl, tt), ((refl, refl, tt), ((refl, refl, tt), ((refl, refl, tt), ((refl, refl, tt), ((refl, refl, tt), ((refl, refl, tt), ((refl, refl, tt), ((refl, refl, tt), ((refl, refl, tt), ((refl, refl, tt), ((refl, refl, tt), refl)))))))))))))))))))

accept_licensed : IsLicensed allowed script accepts replies
accept_licensed = whole_licensed allowed script accepts replies accepted refl accept_run

-- == what is looked for in a log
-- no check of an arrival
abbrev NoArrivalCheck : Call → Type 0
NoArrivalCheck (Call.Check ctx addr SocketAddrUse.TcpAccept) = ⊥
NoArrivalCheck _ = ⊤

-- nothing is handed over
abbrev NoHand : Call → Type 0
NoHand (Call.Hand listener peer) = ⊥
NoHand _ = ⊤

-- each check of an address to listen at is for port 80
abbrev ListensAt80 : Call → Type 0
ListensAt80 (Call.Check ctx addr SocketAddrUse.TcpListen) = port_of addr ≡ 80
ListensAt80 _ = ⊤

-- an entry of the back of a log is one of the log
of_back : (log front back : List Entry) (e x : Entry) → log ≡ front ++ e ∷ back → Has back x → Has log x
of_back log front back e x cut i = subst (λ (es : List Entry). Has es x) (sym cut) (has_back front (e ∷ back) x (inr i))

-- where a log is cut, its last entry is the one at the cut, with nothing behind it, or is behind it
last_at : (front back log : List Entry) (e last : Entry) → log ++ last ∷ [] ≡ front ++ e ∷ back → ((back ≡ []) × (last ≡ e)) ⊎ Has back last
last_at [] back [] e last c = inl (cc, cc)
last_at [] back (x ∷ log) e last c = let p : log ++ last ∷ [] ≡ back = cc in inr (subst (λ (es : List Entry). Has es last) p (has_last log last))
last_at (f ∷ []) back [] e last c = absurd (cc)
last_at (f ∷ g ∷ front) back [] e last c = absurd (cc)
last_at (f ∷ front) back (x ∷ log) e last c = last_at front back log e last (cc)

-- == it is handed over before its yes
abbrev arrived : List Entry
arrived = listens ++ entry sixth (Call.Accept (own_of 2)) (Told.Arrived (peer 8)) ∷ []

abbrev hand : Entry
hand = entry sixth (Call.Hand (own_of 2) (peer 8)) Told.Done

early_handout : IsLicensed allowed script (arrived ++ hand ∷ []) [] → ⊥
early_handout h =
    let a = (h.each arrived hand [] refl).1 in
    of_each (λ e. NoArrivalCheck e.call) arrived _ (tt, (tt, (tt, (tt, (tt, (tt, (tt, (tt, (tt, (tt, (tt, tt))))))))))) (of_back arrived a.front a.back _ _ a.cut a.yes.checked)

-- == its yes is before another accept
abbrev checked : List Entry
checked = arrived ++ entry sixth (Call.Check 0 (peer 8) SocketAddrUse.TcpAccept) Told.Yes ∷ []

abbrev again : Entry
again = entry sixth (Call.Accept (own_of 2)) (Told.Arrived (peer 8))

abbrev twice : List Entry
twice = checked ++ again ∷ []

none_behind : (back : List Entry) (x : Entry) → back ≡ [] → Has back x → ⊥
none_behind back x e i = subst (λ (es : List Entry). Has es x) e i

stale_yes : IsLicensed allowed script (twice ++ hand ∷ []) [] → ⊥
stale_yes h =
    let a = (h.each twice hand [] refl).1 in
    elim (last_at a.front a.back checked _ again a.cut) [ inl q ↦ none_behind a.back _ q.0 a.yes.checked | inr i ↦ a.last (Told.Arrived (peer 8)) i ]

-- == one accept hands over twice
abbrev handed : List Entry
handed = checked ++ (hand ∷ again ∷ entry sixth (Call.Check 0 (peer 8) SocketAddrUse.TcpAccept) Told.Yes ∷ [])

handed_twice : IsLicensed allowed script (handed ++ hand ∷ []) [] → ⊥
handed_twice h = (h.each handed hand [] refl).2 (own_of 2) (peer 8) Told.Done (has_back checked (hand ∷ again ∷ entry sixth (Call.Check 0 (peer 8) SocketAddrUse.TcpAccept) Told.Yes ∷ []) hand (inl refl))

-- == another local address than the last was checked
abbrev moved : Entry
moved = entry (own_of 5) (Call.Local (own_of 2)) (Told.Addr local_81)

abbrev checked_80 : List Entry
checked_80 = bind_log ++ (entry (own_of 5) (Call.Local (own_of 2)) (Told.Addr local_80) ∷ entry (own_of 5) (Call.Check 0 local_80 SocketAddrUse.TcpListen) Told.Yes ∷ [])

abbrev moves : List Entry
moves = checked_80 ++ moved ∷ []

abbrev listen : Entry
listen = entry (own_of 5) (Call.Listen (own_of 2) 128) Told.Done

is_bound : IsBoundSide moves (own_of 2)
is_bound = record {
  ctx = 0;
  family = SocketAddressFamily.Ipv4;
  maker = Created (own_of 2) Told.Done (inr (inl refl));
  op = own_of 5;
  addr = local_80;
  told = inr (inr (inr (inr (inr (inr (inl refl))))));
  other = refl;
}

-- the address of an entry that reports one
told_port : (op : OpId) (addr : IpSocketAddress) → moved ≡ entry op (Call.Local (own_of 2)) (Told.Addr addr) → port_of addr ≡ 81
told_port op addr e = let p : Told.Addr local_81 ≡ Told.Addr addr = ap (λ (x : Entry). x.answer) e in let q : local_81 ≡ addr = cc in sym (ap port_of q)

moved_away : IsLicensed allowed script (moves ++ listen ∷ []) [] → ⊥
moved_away h = by_cases (h.each moves listen [] refl).2
  where
    checks_80 : (ctx : ℕ) (addr : IpSocketAddress) → Has moves (entry (own_of 5) (Call.Check ctx addr SocketAddrUse.TcpListen) Told.Yes) → port_of addr ≡ 80
    checks_80 ctx addr i = of_each (λ e. ListensAt80 e.call) moves _ (tt, (tt, (tt, (tt, (tt, (tt, (tt, (refl, (tt, tt))))))))) i

    by_cases : MayListen moves (own_of 5) (own_of 2) → ⊥
    by_cases (inr m) = m.0 is_bound
    by_cases (inl m) = elim (last_at m.1.1.front m.1.1.back checked_80 _ moved m.1.1.cut) [
      | inl q ↦ (let p = told_port m.1.1.op m.1.0 q.1 in let r = checks_80 m.1.2.ctx m.1.0 m.1.2.checked in omega arith)
      | inr i ↦ m.1.1.last (own_of 5) (Told.Addr local_81) i
    ]

-- == a mark has a network socket that was handed to nobody
abbrev unhanded : Entry
unhanded = entry (own_of 6) (Call.Made 3 kind.Tcp2 (Some 2) (Some sixth)) Told.Done

no_mark : IsMarkOf listens (own_of 6) kind.Tcp2 (Some 2) (Some sixth) (Step.Call 0 (GuestCall.Tcp (TcpCall.Accept 2))) → ⊥
no_mark (inl m) = of_each (λ e. NoHand e.call) listens _ (tt, (tt, (tt, (tt, (tt, (tt, (tt, (tt, (tt, (tt, tt)))))))))) m.handed
no_mark (inr m) = elim m.stream [ inl e ↦ absurd (cc) | inr e ↦ absurd (cc) ]

handed_to_nobody : IsLicensed allowed script (listens ++ unhanded ∷ []) [] → ⊥
handed_to_nobody h =
    let may = h.each listens unhanded [] refl in
    no_mark (at_line (IsMarkOf listens (own_of 6) kind.Tcp2 (Some 2) (Some sixth)) (Step.Call 0 (GuestCall.Tcp (TcpCall.Accept 2))) may.1.origin may.1.at may.1.holds)
