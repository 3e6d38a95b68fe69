-- One poll of an operation asks of its own network socket alone, and closes it only last, where it is refused.
use Rattle.wasi_world.specs.declared.call.Call.TheVariants as call
use Rattle.wasi_laws.proofs.Words.{◌≡◌, true, inl, inr, List, Option, Some, None, refl, sym, subst, ⊤, ErrorCode, OpId, Call, Entry, bind, Given, Item, Who, Operation, LastAsk, NothingLast, CloseLast, ShutdownLast, End, Waits, Done, Refused, last_ask, poll_asks, Allows, allows_weaker, IsOpen, IsAskedOpen, socket_of, GoesOut}
use Rattle.wasi_laws.proofs.asks.Fronts.{is_calm, IsOfSide, AsksBy, Checks, Goes, Calmly, of_side, IsGivenMade, PollLaw, polls_by}
use Rattle.wasi_laws.proofs.sockets.Opened.{Closes, NoneCloses, Grows, grows_none, grows_entry, grows_weaker, open_more}

abbrev pub AskedOpen : List Entry → OpId → Call → Type 0
AskedOpen es op c = IsAskedOpen es (socket_of c)

-- the end closes the network socket
abbrev pub IsRefusal : End → Type 0
IsRefusal (Refused c given) = ⊤
IsRefusal _ = ⊥

abbrev pub EndCloses : LastAsk → End → Type 0
EndCloses last end = (last ≡ CloseLast) × IsRefusal end

abbrev pub IsEndMade : OpId → List Entry → End → Type 0
IsEndMade own es (Done given) = IsGivenMade own es given
IsEndMade own es end = ⊤

pub calm_closes : (c : Call) (x : OpId) → is_calm c ≡ true → Closes c x → ⊥
calm_closes (call.Close side) x e n = absurd (cc)
calm_closes _ x e n = n

goes_closes : (c : Call) (x : OpId) → GoesOut c → Closes c x → ⊥
goes_closes (call.Close side) x e n = e
goes_closes _ x e n = n

asks_close : (who : Who) (i : Item) (c : Call) → AsksBy who i c → (x : OpId) → Closes c x → ⊥
asks_close who i _ (Checks a usage t) x n = n
asks_close who i _ (Goes c t o s) x n = goes_closes c x o n
asks_close who i _ (Calmly c e s) x n = calm_closes c x e n

pub asked_open : (es : List Entry) (side : OpId) (o : Option OpId) → IsOpen es side → IsOfSide side o → IsAskedOpen es o
asked_open es side None k s = tt
asked_open es side (Some x) k s = subst (IsOpen es) (sym s) k

module _ (who : Who) (es : List Entry) where
  -- the network socket that the end of a poll closes
  abbrev pub ClosesAt : End → OpId → Type 0
  ClosesAt end x = (who.side ≡ x) × EndCloses who.last end

  -- What one poll leaves.
  pub record PollLeaves (fs : List Entry) (ended : End × List Item) : Type 0 where
    pub grows : Grows (ClosesAt ended.0) es fs
    pub made : IsEndMade who.id fs ended.0

  abbrev Calm : List Entry → Type 0
  Calm fs = Grows NoneCloses es fs

  ended : (fs : List Entry) (end : End) → Calm fs → Grows (ClosesAt end) es fs
  ended fs end g = grows_weaker NoneCloses (ClosesAt end) es fs (λ x n. absurd n) g

  module _ (o : IsOpen es who.side) where
    still : (fs : List Entry) → Calm fs → IsOpen fs who.side
    still fs g = open_more NoneCloses es fs who.side g (λ n. n) o

    last : (fs : List Entry) (a : LastAsk) (c : ErrorCode) (given : Given) → who.last ≡ a → Calm fs → Allows AskedOpen PollLeaves fs (last_ask who a c given)
    unfolding bind
    last fs NothingLast c given e g = record { grows = ended fs (Refused c given) g; made = tt }
    last fs CloseLast c given e g = (
      still fs g,
      λ t fits. record { grows = grows_entry (ClosesAt (Refused c given)) es fs who.id (call.Close who.side) t (λ x p. (p, (e, tt))) (ended fs (Refused c given) g); made = tt },
    )
    last fs ShutdownLast c given e g = (still fs g, λ t fits. record { grows = ended _ (Refused c given) (grows_entry NoneCloses es fs who.id _ t (λ x n. n) g); made = tt })

    poll_law : PollLaw AskedOpen who (λ fs items. Calm fs) PollLeaves
    poll_law = record {
      asks = λ fs i items c a g. (asked_open fs who.side (socket_of c) (still fs g) (of_side who i c a), λ t fits. grows_entry NoneCloses es fs who.id c t (asks_close who i c a) g);
      writes = λ fs b bytes items g. (still fs g, λ t fits front. grows_entry NoneCloses es fs who.id _ t (λ x n. n) g);
      becomes = λ fs i j items b g. g;
      drops = λ fs i items s g. g;
      ends = λ fs i items c given g. last fs who.last c given refl g;
      waits = λ fs items g. record { grows = ended fs Waits g; made = tt };
      done = λ fs given m g. record { grows = ended fs (Done given) g; made = m };
    }

-- the network socket is open where it is polled
pub polled : (op : Operation) (es : List Entry) (Q : List Entry → End × List Item → Type 0) → IsOpen es op.who.side → ((fs : List Entry) (ended : End × List Item) → PollLeaves op.who es fs ended → Q fs ended) → Allows AskedOpen Q es (poll_asks op)
polled op es Q o k = allows_weaker AskedOpen (PollLeaves op.who es) Q k es (poll_asks op) (polls_by (poll_law op.who es o) op.left es (grows_none NoneCloses es))

-- a poll that closes nothing
pub calm_end : (who : Who) (es fs : List Entry) (ended : End × List Item) → (EndCloses who.last ended.0 → ⊥) → PollLeaves who es fs ended → Grows NoneCloses es fs
calm_end who es fs ended n k = record { made = k.grows.made; closed = λ x c. elim (k.grows.closed x c) [ inl a ↦ inl a | inr p ↦ absurd (n p.1) ] }
