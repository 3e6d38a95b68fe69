-- A network socket whose record was given back: its name was given, and no record claims it any more, nor will one.
use Rattle.wasi_laws.proofs.Words.{Claims, End, Here, Item, List, None, OpId, Operation, Some, Step, TcpRecord, WasiSocketsCtx, accept_name, ap, inl, inr, name_in, no_some, refl, subst, sym, ℕ, ◌+◌, ◌∙◌, ◌≡◌}
use Rattle.wasi_tcp.specs.declared.listener.Accepting.TheVariants as accepting
use Rattle.wasi_records.specs.Records.{tcp2_at, tcp2_of, tcp2_put, tcp2_pushed}
use Rattle.wasi_records.specs.Numbered.{record_gone}
use Rattle.wasi_records.specs.declared.records.Record.{Record}
use Rattle.wasi_world.specs.Operation.{Done, Refused, Waits}
use Rattle.wasi_walks.proofs.GoneLists.{is_gone, was_there}
use Rattle.wasi_walks.proofs.claims.Law.{Named}
use Rattle.wasi_walks.proofs.claims.Polls.{GivesOwn, ended_name}
use Rattle.wasi_walks.proofs.walks.Here.{Grows, IsOlder, IsToCome, grows_to, next_grows, next_to_come, not_given, older_unused, older_used}
use Rattle.wasi_walks.proofs.walks.Moves as walk
use Rattle.wasi_walks.proofs.walks.Moves.{Held, Move, Own, accepting_now, joined, listen_after, new_accept, part_of}
use Rattle.wasi_walks.proofs.Places.{push_new, push_was, put_found, put_was, slot_sort, tcp_sort, udp_sort}

module _ (side : OpId) (line : ℕ) where
  pub record Spent (own : Own) (records : List Record) : Type 0 where
    pub older : IsOlder line own side
    pub none : (i : ℕ) (r : TcpRecord) → tcp2_at records i ≡ Some r → Claims side r → ⊥

  abbrev pub IsSpent : Here → Type 0
  IsSpent h = Spent h.own h.machine.store.records

  -- == records change
  pub spent_by : (own : Own) (records now : List Record) → ((i : ℕ) (r : TcpRecord) → tcp2_at now i ≡ Some r → tcp2_at records i ≡ Some r) → Spent own records → Spent own now
  spent_by own records now was s = record { older = s.older; none = λ i r e c. s.none i r (was i r e) c }

  pub spent_put : (own : Own) (records : List Record) (place : ℕ) (r now : TcpRecord) → tcp2_at records place ≡ Some r → now.side ≡ r.side → (accept_name now.listening ≡ Some side → accept_name r.listening ≡ Some side) → Spent own records → Spent own (tcp2_put records place now)
  spent_put own records place r now g sides names s = record { older = s.older; none = λ i q e c. elim (put_found tcp_sort records place now i q e) [ inl p ↦ s.none place r g (back (subst (Claims side) (sym p.1) c)) | inr p ↦ s.none i q p c ] }
    where
      back : Claims side now → Claims side r
      back (inl e) = inl (sym sides ∙ e)
      back (inr e) = inr (names e)

  pub spent_push : (own : Own) (records : List Record) (now : TcpRecord) → (Claims side now → ⊥) → Spent own records → Spent own (tcp2_pushed records now)
  spent_push own records now other s = record { older = s.older; none = λ i q e c. elim (push_new tcp_sort records now i q e) [ inl p ↦ s.none i q p c | inr p ↦ other (subst (Claims side) (sym p) c) ] }

  pub spent_own : (own now : Own) (records : List Record) → Grows line own now → Spent own records → Spent now records
  spent_own own now records g s = record { older = g side s.older; none = s.none }

  -- a record that claims it is given back
  pub spent_fewer : (h : Here) (place : ℕ) (r : TcpRecord) → Named line h → walk.Found h place r → r.side ≡ Some side → Spent h.own (record_gone h.machine.store.records place)
  spent_fewer h place r n g its = record {
    older = n.older side place r g (inl its);
    none = λ i q e c.
        let same = n.one side i place q r (was_there tcp2_of refl h.machine.store.records place i q e) g c (inl its) in
        no_some q (sym (is_gone tcp2_of refl refl h.machine.store.records place) ∙ (ap (λ (x : ℕ). tcp2_at (record_gone h.machine.store.records place) x) (sym same) ∙ e));
  }

  -- == of the moves
  module _ (contexts : List WasiSocketsCtx) (origin : Step) where
    put_same : (h : Here) (place : ℕ) (r now : TcpRecord) → walk.Found h place r → now.side ≡ r.side → now.listening ≡ r.listening → IsSpent h → IsSpent (walk.put h place now)
    put_same h place r now g s l i = spent_put h.own h.machine.store.records place r now g s (λ e. ap accept_name (sym l) ∙ e) i

    put_used : (h : Here) (place : ℕ) (r now : TcpRecord) → walk.Found h place r → now.side ≡ r.side → now.listening ≡ r.listening → IsSpent h → IsSpent (record (walk.put h place now) { own = Own.Used })
    put_used h place r now g s l i = spent_own h.own Own.Used _ (older_used line h.own) (put_same h place r now g s l i)

    put_bare : (h : Here) (place : ℕ) (r now : TcpRecord) → walk.Found h place r → now.side ≡ r.side → accept_name now.listening ≡ None → IsSpent h → IsSpent (walk.put h place now)
    put_bare h place r now g s none i = spent_put h.own h.machine.store.records place r now g s (λ e. absurd (no_some side (sym none ∙ e))) i

    pub moves_spent : (h now : Here) → Move line origin h now → IsSpent h → IsSpent now
    moves_spent _ _ (walk.Spends h own) i = spent_own h.own Own.Used _ (older_used line h.own) i
    moves_spent _ _ (walk.EndsConnect h place own ended) i = spent_own h.own Own.Used _ (older_used line h.own) i
    moves_spent _ _ (walk.RecallsConnect h ids place e own) i = spent_own h.own (Own.ToConnect place) _ (grows_to line h.own Own.Unused (Own.ToConnect place) own (older_unused line (Own.ToConnect place))) i
    moves_spent _ _ (walk.RecallsStreams h ids place handle e own) i = spent_own h.own (Own.ToConnect place) _ (grows_to line h.own Own.Unused (Own.ToConnect place) own (older_unused line (Own.ToConnect place))) i
    moves_spent _ _ (walk.Counts h own) i = spent_own h.own (Own.Names 1) _ (grows_to line h.own Own.Unused (Own.Names 1) own (older_unused line (Own.Names 1))) i
    moves_spent _ _ (walk.SpendsNames h n own) i = spent_own h.own Own.Used _ (older_used line h.own) i
    moves_spent _ _ (walk.Changes h place r now g p) i = put_same h place r now g p.side p.listening i
    moves_spent _ _ (walk.ClosesReader h place r s g e) i = put_same h place r _ g refl refl i
    moves_spent _ _ (walk.Writes h place r s w g e m) i = put_same h place r _ g refl refl i
    moves_spent _ _ (walk.IsGone h place r q g e) i = put_bare h place r _ g refl refl i
    moves_spent _ _ (walk.Reconnects h place r c now g e s t u) i = put_same h place r _ g refl refl i
    moves_spent _ _ (walk.Opens h place r c d g e n) i = put_same h place r _ g refl refl i
    moves_spent _ _ (walk.TakesEnd h handle place r _ t g (walk.OfReceive c e free)) i = put_same h place r _ g refl refl i
    moves_spent _ _ (walk.TakesEnd h handle place r _ t g (walk.OfSend c e free)) i = put_same h place r _ g refl refl i
    moves_spent _ _ (walk.AddsSlot h s) i = spent_by h.own _ _ (push_was slot_sort tcp_sort (λ t. refl) h.machine.store.records s) i
    moves_spent _ _ (walk.BeginsConnect h place r x a bound at g d to known idle own) i = put_used h place r _ g refl refl i
    moves_spent _ _ (walk.BeginsBind h place r x a at g d to own) i = put_used h place r _ g refl refl i
    moves_spent _ _ (walk.BeginsWrite h place n r s half permit bytes at g e w within own) i = put_used h place r _ g refl refl i
    moves_spent _ _ (walk.BeginsListen h place r x bound at g d known free none to idle own) i = spent_own h.own Own.Used _ (older_used line h.own) (put_bare h place r _ g refl refl i)
    moves_spent _ _ (walk.BeginsAccept h place n r l at g e a own) i =
        spent_own h.own (Own.Names (n + 1)) _ (next_grows line n h.own own)
        (spent_put h.own h.machine.store.records place r (accepting_now r l (new_accept (part_of line n) l)) g refl (λ q. absurd (not_given line h.own side i.older (let its : part_of line n ≡ side = cc in subst (IsToCome line h.own) its (next_to_come line n h.own own)))) i)
    moves_spent _ _ (walk.Unlistens h place r op q g e c o) i = put_bare h place r _ g refl refl i
    moves_spent _ _ (walk.Forgets h place r l c g e a) i = put_bare h place r _ g refl refl i
    moves_spent _ _ (walk.CancelsBind h place r op q g e) i = put_same h place r _ g refl refl i
    moves_spent _ _ (walk.Joins h c handle place r l new peer is of u g e a) i =
        let idle = accepting_now r l accepting.Idle in
        spent_push h.own (tcp2_put h.machine.store.records place idle) (joined l new peer) (λ c. elim c [ inl q ↦ i.none place r g (inr (ap accept_name e ∙ (ap name_in a ∙ q))) | inr q ↦ absurd (cc) ]) (put_bare h place r idle g refl refl i)
    moves_spent _ _ (walk.JoinsPlain h c listener remaining place r l new peer is of u g e a) i =
        let idle = accepting_now r l accepting.Idle in
        spent_push h.own (tcp2_put h.machine.store.records place idle) (walk.joined_plain l new peer) (λ c. elim c [ inl q ↦ i.none place r g (inr (ap accept_name e ∙ (ap name_in a ∙ q))) | inr q ↦ absurd (cc) ]) (put_bare h place r idle g refl refl i)
    moves_spent _ _ (walk.JoinsFault h place r l c u g e a) i =
        let idle = accepting_now r l accepting.Idle in
        spent_push h.own (tcp2_put h.machine.store.records place idle) (walk.faulted l c) (λ x. elim x [ inl q ↦ absurd (cc) | inr q ↦ absurd (cc) ]) (put_bare h place r idle g refl refl i)
    moves_spent _ _ (walk.UdpChanges h place o now g p keeps) i = spent_by h.own _ _ (put_was udp_sort tcp_sort (λ t. refl) h.machine.store.records place _) i
    moves_spent _ _ (walk.BeginsUdpBind h place o a at g to own) i = spent_own h.own Own.Used _ (older_used line h.own) (spent_by h.own _ _ (put_was udp_sort tcp_sort (λ t. refl) h.machine.store.records place _) i)
    moves_spent _ _ (walk.BeginsUdpConnect h place o a bound at g to known none own) i = spent_own h.own (Own.ToConnect place) _ (grows_to line h.own Own.Unused (Own.ToConnect place) own (older_unused line (Own.ToConnect place))) (spent_by h.own _ _ (put_was udp_sort tcp_sort (λ t. refl) h.machine.store.records place _) i)
    moves_spent _ _ (walk.BeginsSend h place n o out d bound at g e is known own) i = spent_own h.own (Own.Names (n + 1)) _ (next_grows line n h.own own) (spent_by h.own _ _ (put_was udp_sort tcp_sort (λ t. refl) h.machine.store.records place _) i)
    moves_spent _ _ (walk.BeginsReceive h place n o inc bound at g e is own) i = spent_own h.own (Own.Names (n + 1)) _ (next_grows line n h.own own) (spent_by h.own _ _ (put_was udp_sort tcp_sort (λ t. refl) h.machine.store.records place _) i)
    moves_spent _ _ (walk.CancelsUdpBind h place o op q g e) i = spent_by h.own _ _ (put_was udp_sort tcp_sort (λ t. refl) h.machine.store.records place _) i
    moves_spent _ _ (walk.CancelsUdpConnect h place o q g) i = spent_by h.own _ _ (put_was udp_sort tcp_sort (λ t. refl) h.machine.store.records place _) i
    moves_spent _ _ (walk.DropsUdp h place o idle made g) i = spent_by h.own _ _ (put_was udp_sort tcp_sort (λ t. refl) h.machine.store.records place _) i
    moves_spent _ _ (walk.Finds h records s) i = spent_by h.own _ _ (λ k r e. sym (s.tcp k) ∙ e) i
    moves_spent _ _ (walk.GivesBack h place idle left) i = spent_by h.own _ _ (was_there tcp2_of refl h.machine.store.records place) i
    moves_spent _ _ _ i = i

    -- and of what is polled
    listened : (h : Here) (place : ℕ) (r : TcpRecord) (op : Operation) (end : End × List Item) → walk.Found h place r → IsSpent h → IsSpent (walk.put h place (listen_after op r end))
    listened h place r op (Waits, items) g i = put_bare h place r _ g refl refl i
    listened h place r op (Done given, items) g i = put_bare h place r _ g refl refl i
    listened h place r op (Refused c given, items) g i = put_bare h place r _ g refl refl i

    pub polls_spent : (h : Here) (op : Operation) (after : End × List Item → Here) → Held h op after → (end : End × List Item) → GivesOwn op.who.id end.0 → IsSpent h → IsSpent (after end)
    polls_spent h _ _ (walk.BindsOn place r op q g e) end k i = put_same h place r _ g refl refl i
    polls_spent h _ _ (walk.Connects place r op g e) end k i = put_same h place r _ g refl refl i
    polls_spent h _ _ (walk.Listens place r op q g e c) end k i = listened h place r op end g i
    polls_spent h _ _ (walk.Awaits place r l op g e a) end k i = spent_put h.own h.machine.store.records place r _ g refl (λ p. ap accept_name e ∙ (ap name_in a ∙ ended_name op end k side p)) i
    polls_spent h _ _ (walk.UdpCreates place create q g) end k i = spent_by h.own _ _ (put_was udp_sort tcp_sort (λ t. refl) h.machine.store.records place _) i
    polls_spent h _ _ (walk.UdpBindsOn place o op q g e) end k i = spent_by h.own _ _ (put_was udp_sort tcp_sort (λ t. refl) h.machine.store.records place _) i
    polls_spent h _ _ (walk.UdpConnectsOn place o op q g e) end k i = spent_by h.own _ _ (put_was udp_sort tcp_sort (λ t. refl) h.machine.store.records place _) i
    polls_spent h _ _ (walk.UdpReconnectsOn place o op q g e) end k i = spent_by h.own _ _ (put_was udp_sort tcp_sort (λ t. refl) h.machine.store.records place _) i
    polls_spent h _ _ (walk.SendsOn place o out op left g e s settles) end k i = spent_by h.own _ _ (put_was udp_sort tcp_sort (λ t. refl) h.machine.store.records place _) i
    polls_spent h _ _ (walk.ReceivesOn place o inc op g e s) end k i = spent_by h.own _ _ (put_was udp_sort tcp_sort (λ t. refl) h.machine.store.records place _) i
