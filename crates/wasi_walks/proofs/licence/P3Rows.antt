-- The definitions on logs of 0.3: that of a run, in which a socket that isn't bound listens, accepts and is read, which is licensed;
-- and others, which are not.
use Rattle.wasi_walks.proofs.Words.{subst, NamesSide, IsSide, ReachesSide, Has, Handed, ◌∙◌}
use Rattle.wasi_walks.proofs.Words.{Handed, sym, is_wildcard, Created, IsBoundSide, IsMaker, Accepting, Accepts, Call, Entry, Give, InProgress, IpSocketAddress, IsBindTo, IsLicensed, IsMarkOf, Left, List, Machine, MayListen, None, OpId, Reply}
use Rattle.wasi_walks.proofs.Words.{SocketAddrUse, SocketAddressFamily, Some, GuestCall, Step, TcpRecord, TcpState, Told, [], accepted_socket, accepted_state, ap, arith, bind, entry, false, first_state}
use Rattle.wasi_walks.proofs.Words.{inl, inr, new_record, number_fields, own_of, polls, port_of, refl, run, wildcard, ℕ, ⊤, ◌++◌, ◌∷◌, ◌≡◌}
use Rattle.wasi_steps.specs.Reply.{bytes_fields, pair_fields}
use Rattle.tcp_records.specs.Ends.{take_receive_end}
use Rattle.tcp_records.specs.declared.slot.Slot.TheVariants.{Unfilled}
use Rattle.wasi_records.specs.declared.records.Record.TheVariants as rec
use Rattle.host_store.specs.declared.kind.Kind.TheVariants as slot
use Rattle.wasi_world.specs.declared.call.HandleKind.TheVariants as kind
use Rattle.wasi_walks.specs.Licence.{UdpCreated}
use Rattle.wasi_walks.proofs.licence.Runs.{whole_licensed}
use Rattle.wasi_walks.proofs.licence.Rows.{allowed, local_80}
use Rattle.wasi_walks.proofs.licence.Refused.{at_line, of_each}
use Rattle.wasi_steps.specs.declared.guest_call.P3TcpCall.{P3TcpCall}

abbrev anywhere : IpSocketAddress
anywhere = wildcard SocketAddressFamily.Ipv4

abbrev peer : IpSocketAddress
peer = IpSocketAddress.Ipv4 (record { port = 7; address = (127, 0, 0, 1) })

-- the accept of the third line
abbrev third : OpId
third = record { step = 3; part = 1 }

-- == a socket listens and accepts, and the connection is read
abbrev script : List Step
script = Step.Call 0 (GuestCall.P3Tcp (P3TcpCall.Create SocketAddressFamily.Ipv4)) ∷ Step.Call 0 (GuestCall.P3Tcp (P3TcpCall.Listen 1)) ∷ Step.Call 0 (GuestCall.P3Tcp (P3TcpCall.Accept 2 1)) ∷ Step.Call 0 (GuestCall.P3Tcp (P3TcpCall.Receive 3)) ∷ Step.Call 0 (GuestCall.P3Tcp (P3TcpCall.Read 4 8)) ∷ []

-- it is created, and isn't bound
abbrev begins : List Entry
begins = entry (own_of 1) (Call.TcpCreate 0 SocketAddressFamily.Ipv4) Told.Done
    ∷ entry (own_of 1) (Call.Made 1 kind.Tcp3 None (Some (own_of 1))) Told.Done
    ∷ entry (own_of 2) (Call.Local (own_of 1)) (Told.Addr anywhere)
    ∷ []

abbrev bind_yes : Entry
bind_yes = entry (own_of 2) (Call.Check 0 anywhere SocketAddrUse.TcpBind) Told.Yes

abbrev listen_yes : Entry
listen_yes = entry (own_of 2) (Call.Check 0 anywhere SocketAddrUse.TcpListen) Told.Yes

abbrev binds : Entry
binds = entry (own_of 2) (Call.Bind (own_of 1) anywhere) Told.Done

abbrev listens : Entry
listens = entry (own_of 2) (Call.Listen (own_of 1) 128) Told.Done

abbrev accepts : List Entry
accepts = begins
    ++ (bind_yes
    ∷ listen_yes
    ∷ binds
    ∷ listens
    ∷ entry (own_of 2) (Call.Made 2 kind.Listen3 (Some 1) (Some (own_of 1))) Told.Done
    ∷ entry third (Call.Accept (own_of 1)) (Told.Arrived peer)
    ∷ entry third (Call.Check 0 peer SocketAddrUse.TcpAccept) Told.Yes
    ∷ entry third (Call.Hand (own_of 1) peer) Told.Done
    ∷ entry (own_of 3) (Call.Made 3 kind.Tcp3 (Some 2) (Some third)) Told.Done
    ∷ [])

-- the connection's read end
abbrev ends : List Entry
ends = accepts ++ (entry (own_of 4) (Call.Made 4 kind.Receive3 (Some 3) (Some third)) Told.Done ∷ entry (own_of 4) (Call.Made 5 kind.Result3 (Some 3) (Some third)) Told.Done ∷ [])

abbrev log : List Entry
log = ends ++ entry (own_of 5) (Call.Read third 8) (Told.Bytes (65 ∷ [])) ∷ []

abbrev listener : TcpRecord
listener = record {
  inner = record { state = TcpState.Listening (own_of 1); family = SocketAddressFamily.Ipv4; backlog = 128; bound = false; maker = 0 };
  side = Some (own_of 1);
  in_progress = InProgress.Nothing;
  listening = Accepts (record { side = own_of 1; maker = 0; family = SocketAddressFamily.Ipv4; accept = Accepting.Idle });
  streams = None;
  dropped = false;
  maker = 0;
}

-- the listener, the connection with its read end, and the end's slot
abbrev after : Machine
after = record {
  table = record {
    next = 6;
    live = record { handle = 1; value = slot.Tcp3 0; parent = None }
        ∷ record { handle = 2; value = slot.Listen3 0; parent = None }
        ∷ record { handle = 3; value = slot.Tcp3 1; parent = None }
        ∷ record { handle = 4; value = slot.Receive3 (record { socket = Some 1; slot = 2 }); parent = None }
        ∷ record { handle = 5; value = slot.Result3 2; parent = None }
        ∷ [];
  };
  store = record {
    records = rec.Tcp listener ∷ rec.Tcp (take_receive_end (new_record (accepted_socket SocketAddressFamily.Ipv4 0 (accepted_state third peer)))).1 ∷ rec.Slot Unfilled ∷ [];
    jobs = [];
    standing = None;
    beside = [];
    limits = [];
  };
}

abbrev replies : List Reply
replies = Reply.Ok (number_fields 1) ∷ Reply.Ok (number_fields 2) ∷ Reply.Ok (number_fields 3) ∷ Reply.Ok (pair_fields 4 5) ∷ Reply.Ok (bytes_fields (65 ∷ [])) ∷ []

read_run : Left (run allowed [] first_state 1 script) log (Give (replies, after))
unfolding bind polls
read_run = ((refl, refl, tt), ((refl, refl, tt), ((refl, refl, tt), ((refl, refl, tt), ((refl, refl, tt), ((refl, refl, tt), ((refl, refl, tt), ((refl, refl, tt), ((refl, refl, tt), ((refl, refl, tt), ((refl, refl, tt), ((refl, refl, tt), ((refl, refl, tt), ((refl, refl, tt), ((refl, refl, omega arith), refl)))))))))))))))

read_licensed : IsLicensed allowed script log replies
read_licensed = whole_licensed allowed script log replies after refl read_run

-- == what is looked for in a log
-- no check of an address to bind to
abbrev NoBindCheck : Call → Type 0
NoBindCheck (Call.Check ctx addr SocketAddrUse.TcpBind) = ⊥
NoBindCheck _ = ⊤

-- each local address that is reported is the wildcard
abbrev IsAnywhere : Told → Type 0
IsAnywhere (Told.Addr a) = a ≡ anywhere
IsAnywhere _ = ⊤

-- each create is of IPv4, and nothing is handed over
abbrev MakesFour : Call → Type 0
MakesFour (Call.TcpCreate ctx f) = f ≡ SocketAddressFamily.Ipv4
MakesFour (Call.UdpCreate ctx f) = f ≡ SocketAddressFamily.Ipv4
MakesFour (Call.Hand l p) = ⊥
MakesFour _ = ⊤

-- == a listen's yes is none for its bind
abbrev checked : List Entry
checked = begins ++ listen_yes ∷ []

unchecked_bind : IsLicensed allowed script (checked ++ binds ∷ []) [] → ⊥
unchecked_bind h = let may = h.each checked binds [] refl in of_each (λ e. NoBindCheck e.call) checked _ (tt, (tt, (tt, (tt, tt)))) may.2.checked

-- == a listen binds to no other address than the wildcard
abbrev checked_80 : List Entry
checked_80 = begins ++ entry (own_of 2) (Call.Check 0 local_80 SocketAddrUse.TcpBind) Told.Yes ∷ []

abbrev binds_80 : Entry
binds_80 = entry (own_of 2) (Call.Bind (own_of 1) local_80) Told.Done

no_wildcard : (family : SocketAddressFamily) → local_80 ≡ wildcard family → ⊥
no_wildcard SocketAddressFamily.Ipv4 e = let port = ap port_of e in omega arith
no_wildcard SocketAddressFamily.Ipv6 e = let port = ap port_of e in omega arith

bound_elsewhere : IsLicensed allowed script (checked_80 ++ binds_80 ∷ []) [] → ⊥
bound_elsewhere h =
    let may = h.each checked_80 binds_80 [] refl in
    elim may.1 [
      | inl by_bind ↦ at_line (IsBindTo local_80) (Step.Call 0 (GuestCall.P3Tcp (P3TcpCall.Listen 1))) by_bind.origin by_bind.at by_bind.holds
      | inr by_listen ↦ no_wildcard by_listen.1.family by_listen.1.is
    ]

-- == a socket that isn't bound doesn't listen without the yes of its bind
family_is : (ctx : ℕ) (f : SocketAddressFamily) (side : OpId) → IsMaker checked ctx f side → f ≡ SocketAddressFamily.Ipv4
family_is ctx f side (Created s t h) = of_each (λ e. MakesFour e.call) checked _ (refl, (tt, (tt, (tt, tt)))) h
family_is ctx f side (UdpCreated s t h) = of_each (λ e. MakesFour e.call) checked _ (refl, (tt, (tt, (tt, tt)))) h
family_is ctx f side (Handed s l p t h m) = absurd (of_each (λ e. MakesFour e.call) checked _ (refl, (tt, (tt, (tt, tt)))) h)

not_bound : IsBoundSide checked (own_of 1) → ⊥
not_bound b =
    let f = family_is b.ctx b.family (own_of 1) b.maker in
    let a : b.addr ≡ anywhere = of_each (λ e. IsAnywhere e.answer) checked _ (tt, (tt, (refl, (tt, tt)))) b.told in
    let p : is_wildcard SocketAddressFamily.Ipv4 anywhere ≡ false = ap (λ (x : SocketAddressFamily). is_wildcard x anywhere) (sym f) ∙ (ap (is_wildcard b.family) (sym a) ∙ b.other) in
    absurd (cc)

may_not : MayListen checked (own_of 2) (own_of 1) → ⊥
may_not (inl m) = not_bound m.0
may_not (inr m) = of_each (λ e. NoBindCheck e.call) checked _ (tt, (tt, (tt, (tt, tt)))) m.1.checked

unbound_listen : IsLicensed allowed script (checked ++ listens ∷ []) [] → ⊥
unbound_listen h = may_not (h.each checked listens [] refl).2

-- == a listen marks no result
abbrev result : Entry
result = entry (own_of 2) (Call.Made 2 kind.Result3 (Some 1) (Some (own_of 1))) Told.Done

no_result : IsMarkOf begins (own_of 2) kind.Result3 (Some 1) (Some (own_of 1)) (Step.Call 0 (GuestCall.P3Tcp (P3TcpCall.Listen 1))) → ⊥
no_result m = let p = m.0 in absurd (cc)

marked_by_listen : IsLicensed allowed script (begins ++ result ∷ []) [] → ⊥
marked_by_listen h =
    let may = h.each begins result [] refl in
    no_result (at_line (IsMarkOf begins (own_of 2) kind.Result3 (Some 1) (Some (own_of 1))) (Step.Call 0 (GuestCall.P3Tcp (P3TcpCall.Listen 1))) may.1.origin may.1.at may.1.holds)

-- == an end is of its socket's network socket
-- the handle of the connection is marked with its network socket alone, and so is its end's
abbrev OfThird : ℕ → Call → Type 0
OfThird n (Call.Made handle k parent sock) = handle ≡ n → sock ≡ Some third
OfThird n _ = ⊤

no_other : Some (own_of 1) ≡ Some third → ⊥
no_other e = let p : own_of 1 ≡ third = cc in let line = ap (λ (o : OpId). o.step) p in cc

abbrev marked_other : Entry
marked_other = entry (own_of 4) (Call.Made 4 kind.Receive3 (Some 3) (Some (own_of 1))) Told.Done

no_end : IsMarkOf accepts (own_of 4) kind.Receive3 (Some 3) (Some (own_of 1)) (Step.Call 0 (GuestCall.P3Tcp (P3TcpCall.Receive 3))) → ⊥
no_end m = no_other (of_each (λ e. OfThird 3 e.call) accepts _ (tt, ((λ e. absurd (cc)), (tt, (tt, (tt, (tt, (tt, ((λ e. absurd (cc)), (tt, (tt, (tt, ((λ e. refl), tt)))))))))))) m.1.1.mark refl)

end_of_another : IsLicensed allowed script (accepts ++ marked_other ∷ []) [] → ⊥
end_of_another h =
    let may = h.each accepts marked_other [] refl in
    no_end (at_line (IsMarkOf accepts (own_of 4) kind.Receive3 (Some 3) (Some (own_of 1))) (Step.Call 0 (GuestCall.P3Tcp (P3TcpCall.Receive 3))) may.1.origin may.1.at may.1.holds)

-- == and reads from none but that
abbrev reads_other : Entry
reads_other = entry (own_of 5) (Call.Read (own_of 1) 8) (Told.Bytes (65 ∷ []))

of_fourth : (handle : ℕ) → Has (4 ∷ []) handle → IsSide ends handle (own_of 1) → ⊥
of_fourth handle (inl e) is =
    let k : IsSide ends 4 (own_of 1) = subst (λ (n : ℕ). IsSide ends n (own_of 1)) (sym e) is in
    no_other (of_each (λ x. OfThird 4 x.call) ends _ (tt, ((λ x. absurd (cc)), (tt, (tt, (tt, (tt, (tt, ((λ x. absurd (cc)), (tt, (tt, (tt, ((λ x. absurd (cc)), ((λ x. refl), ((λ x. absurd (cc)), tt)))))))))))))) k.mark refl)
of_fourth handle (inr e) is = e

reaches_none : ReachesSide script ends (own_of 5) (own_of 1) → ⊥
reaches_none (inl b) = let n = at_line (NamesSide ends (own_of 1)) (Step.Call 0 (GuestCall.P3Tcp (P3TcpCall.Read 4 8))) b.origin b.at b.holds in of_fourth n.handle n.named n.is
reaches_none (inr e) = let line = ap (λ (o : OpId). o.step) e in cc

read_of_another : IsLicensed allowed script (ends ++ reads_other ∷ []) [] → ⊥
read_of_another h = reaches_none (h.each ends reads_other [] refl)
