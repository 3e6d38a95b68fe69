-- An accept: each of its asks is allowed, and what it leaves may be polled on, or was handed over.
use Rattle.wasi_walks.proofs.Words.{Accept, Allows, Call, CheckArrival, Done, End, Entry, ErrorCode, FrontKeeps, Given, HandedNone, IpSocketAddress}
use Rattle.wasi_walks.proofs.Words.{IsAdmitted, IsArrival, IsVerdict, Item, LastAsk, List, MarksNoSocket, Nothing, NothingLast, OpId, Some}
use Rattle.wasi_walks.proofs.Words.{Step, TcpAccept, Told, Waits, WasiSocketsCtx, Who, [], accept_ended, accept_front, admitted_front, allows_polls}
use Rattle.wasi_walks.proofs.Words.{ap, append_assoc, arrival_front, bind, entry, front, hand_front, inl, inr, last_ask, marked_by, poll_asks, refl}
use Rattle.wasi_walks.proofs.Words.{refuse_front, subst, sym, told_arrival, told_verdict, ◌++◌, ◌∙◌, ◌∷◌, ◌≡◌}
use Rattle.wasi_world.specs.Operation.{Connection}
use Rattle.wasi_walks.proofs.Lists.{has_last, has_split}
use Rattle.wasi_walks.proofs.licence.State.{LastAccept, IsHanded, AcceptLeft, Unarrived, ToCheck, AcceptingStands, name_in, WorksOn, AcceptingIsFine}
use Rattle.wasi_walks.proofs.licence.Frames.{last_more, handed_unless, unmarked_unless, stay, works_more, maker_more}
use Rattle.wasi_walks.proofs.licence.Unbound.{MayAskSo}

-- what is left in the middle of a poll: asks, with nothing handed over, or nothing, once the arrival was
pub data PollLeft (es : List Entry) (op side : OpId) : Given → List Item → Type 0 where
  Asking : (items : List Item) → HandedNone es op → AcceptLeft es op side items → PollLeft es op side Nothing items
  Taken : (peer : IpSocketAddress) → IsHanded es op side peer → PollLeft es op side (Connection op peer) []

-- the arrival was just reported
told_last : (es : List Entry) (op side : OpId) (peer : IpSocketAddress) → LastAccept (es ++ entry op (Call.Accept side) (Told.Arrived peer) ∷ []) op side peer
told_last es op side peer = record { front = es; back = []; cut = refl; last = λ t i. i }

module _ (contexts : List WasiSocketsCtx) (steps : List Step) where
  -- an ask by this name that may come, and is no mark
  abbrev pub MayAs : OpId → List Entry → OpId → Call → Type 0
  MayAs x es op c = MayAskSo contexts steps es op c × (op ≡ x) × (marked_by c ≡ 0)

  -- == a poll
  module _ (who : Who) where
    abbrev Works : List Entry → Type 0
    Works es = WorksOn steps es who.id who.side who.context

    record StandsBefore (es : List Entry) (given : Given) (items : List Item) : Type 0 where
      pub works : Works es
      pub marked : MarksNoSocket es who.id
      pub so_far : PollLeft es who.id who.side given items

    -- The accept that the poll leaves may be polled on or taken, and has its name.
    pub record StandsAfter (es : List Entry) (ended : End × List Item) : Type 0 where
      pub fine : AcceptingIsFine steps es who.side who.context (accept_ended who ended)
      pub stands : AcceptingStands es who.side (accept_ended who ended)
      pub name : (y : OpId) → name_in (accept_ended who ended) ≡ Some y → y ≡ who.id

    module _ (last : who.last ≡ NothingLast) where
      works_on : (es : List Entry) (c : Call) (t : Told) → Works es → Works (es ++ entry who.id c t ∷ [])
      works_on es c t w = works_more (stay steps) es _ who.id who.side who.context w

      -- a code ends it, and nothing more is asked
      ends_last : (es : List Entry) (c : ErrorCode) (given : Given) → Allows (MayAs who.id) StandsAfter es (last_ask who who.last c given)
      ends_last es c given = subst (λ (l : LastAsk). Allows (MayAs who.id) StandsAfter es (last_ask who l c given)) (sym last) (record { fine = tt; stands = tt; name = λ y e. absurd (cc) })

      -- after the check that was answered yes the arrival may be handed over
      admitted : (es : List Entry) (peer : IpSocketAddress) → Works es → LastAccept es who.id who.side peer → IsAdmitted (es ++ entry who.id (Call.Check who.context peer TcpAccept) Told.Yes ∷ []) who.id who.side peer
      admitted es peer w h =
          let e = entry who.id (Call.Check who.context peer TcpAccept) Told.Yes in
          record {
            front = h.front;
            back = h.back ++ e ∷ [];
            cut = ap (λ (fs : List Entry). fs ++ e ∷ []) h.cut ∙ append_assoc h.front (entry who.id (Call.Accept who.side) (Told.Arrived peer) ∷ h.back) (e ∷ []);
            last = λ t i. elim (has_split h.back e (entry who.id (Call.Accept who.side) t) i) [
              | inl j ↦ h.last t j
              | inr q ↦ (let p = ap (λ (x : Entry). x.call) q in absurd (cc))
            ];
            yes = record { ctx = who.context; family = w.family; maker = maker_more es _ who.context w.family who.side w.made; checked = has_last h.back e };
          }

      hands : (es : List Entry) (peer : IpSocketAddress) → Works es → HandedNone es who.id → MarksNoSocket es who.id → IsAdmitted es who.id who.side peer → Allows (MayAs who.id) (FrontKeeps (MayAs who.id) who StandsBefore StandsAfter []) es (hand_front who peer)
      unfolding bind
      hands es peer w n m a = (
        ((inl w.named, a, n), refl, refl),
        λ t fits. record { works = works_on es _ t w; marked = unmarked_unless es who.id _ t who.id m refl; so_far = Taken peer (record { told = t; hand = has_last es _ }) },
      )

      refuses : (es : List Entry) (peer : IpSocketAddress) → Works es → HandedNone es who.id → MarksNoSocket es who.id → Allows (MayAs who.id) (FrontKeeps (MayAs who.id) who StandsBefore StandsAfter []) es (refuse_front who peer)
      unfolding bind
      refuses es peer w n m = (
        (inl w.named, refl, refl),
        λ t fits. record { works = works_on es _ t w; marked = unmarked_unless es who.id _ t who.id m refl; so_far = Asking (Accept ∷ []) (handed_unless es who.id _ t who.id n (λ l p o e. absurd (cc))) Unarrived },
      )

      -- the check of the arrival
      asked_check : (es : List Entry) (peer : IpSocketAddress) (t : Told) → IsVerdict t → Works es → HandedNone es who.id → MarksNoSocket es who.id → LastAccept es who.id who.side peer
          → Allows (MayAs who.id) (FrontKeeps (MayAs who.id) who StandsBefore StandsAfter []) (es ++ entry who.id (Call.Check who.context peer TcpAccept) t ∷ []) (admitted_front who peer (told_verdict t))
      asked_check es peer Told.Yes fits w n m h =
          hands _ peer (works_on es _ Told.Yes w) (handed_unless es who.id _ Told.Yes who.id n (λ l p o e. absurd (cc))) (unmarked_unless es who.id _ Told.Yes who.id m refl) (admitted es peer w h)
      asked_check es peer Told.No fits w n m h = refuses _ peer (works_on es _ Told.No w) (handed_unless es who.id _ Told.No who.id n (λ l p o e. absurd (cc))) (unmarked_unless es who.id _ Told.No who.id m refl)
      asked_check es peer Told.Pending fits w n m h = record {
        works = works_on es _ Told.Pending w;
        marked = unmarked_unless es who.id _ Told.Pending who.id m refl;
        so_far = Asking (CheckArrival peer ∷ []) (handed_unless es who.id _ Told.Pending who.id n (λ l p o e. absurd (cc))) (ToCheck peer (last_more es who.id _ Told.Pending who.id who.side peer h (λ x. x)));
      }
      asked_check es peer _ fits w n m h = absurd fits

      checks : (es : List Entry) (peer : IpSocketAddress) → Works es → HandedNone es who.id → MarksNoSocket es who.id → LastAccept es who.id who.side peer → Allows (MayAs who.id) (FrontKeeps (MayAs who.id) who StandsBefore StandsAfter []) es (arrival_front who peer)
      unfolding bind
      checks es peer w n m h = ((tt, refl, refl), λ t fits. asked_check es peer t fits w n m h)

      -- the accept itself
      asked_accept : (es : List Entry) (t : Told) → IsArrival t → Works es → HandedNone es who.id → MarksNoSocket es who.id
          → Allows (MayAs who.id) (FrontKeeps (MayAs who.id) who StandsBefore StandsAfter []) (es ++ entry who.id (Call.Accept who.side) t ∷ []) (accept_front who (told_arrival t))
      asked_accept es (Told.Arrived peer) fits w n m =
          checks _ peer (works_on es _ (Told.Arrived peer) w) (handed_unless es who.id _ (Told.Arrived peer) who.id n (λ l p o e. absurd (cc))) (unmarked_unless es who.id _ (Told.Arrived peer) who.id m refl) (told_last es who.id who.side peer)
      asked_accept es (Told.Code c) fits w n m = ends_last _ c Nothing
      asked_accept es Told.Pending fits w n m = record {
        works = works_on es _ Told.Pending w;
        marked = unmarked_unless es who.id _ Told.Pending who.id m refl;
        so_far = Asking (Accept ∷ []) (handed_unless es who.id _ Told.Pending who.id n (λ l p o e. absurd (cc))) Unarrived;
      }
      asked_accept es _ fits w n m = absurd fits

      fine_asking : (es : List Entry) (item : Item) (items : List Item) → Works es → HandedNone es who.id → MarksNoSocket es who.id → AcceptLeft es who.id who.side (item ∷ items)
          → Allows (MayAs who.id) (FrontKeeps (MayAs who.id) who StandsBefore StandsAfter items) es (front who item)
      unfolding bind
      fine_asking es _ _ w n m Unarrived = ((inl w.named, refl, refl), λ t fits. asked_accept es t fits w n m)
      fine_asking es _ _ w n m (ToCheck peer h) = checks es peer w n m h

      fine_front : (es : List Entry) (given : Given) (item : Item) (items : List Item) → Works es → MarksNoSocket es who.id → PollLeft es who.id who.side given (item ∷ items)
          → Allows (MayAs who.id) (FrontKeeps (MayAs who.id) who StandsBefore StandsAfter items) es (front who item)
      fine_front es _ item items w m (Asking _ n l) = fine_asking es item items w n m l

      waits : (es : List Entry) (items : List Item) → Works es → MarksNoSocket es who.id → PollLeft es who.id who.side Nothing items → StandsAfter es (Waits, items)
      waits es items w m (Asking _ n l) = record {
        fine = record { named = w.named; on = refl; asks = refl; last = last };
        stands = record { handed = n; marked = m; so_far = l };
        name = λ y e. cc;
      }

      ends : (es : List Entry) (given : Given) → MarksNoSocket es who.id → PollLeft es who.id who.side given [] → StandsAfter es (Done given, [])
      ends es _ m (Asking _ n l) = elim l [ ]
      ends es _ m (Taken peer h) = record { fine = h; stands = m; name = λ y e. cc }

      pub polled : (es : List Entry) (items : List Item) → Works es → HandedNone es who.id → MarksNoSocket es who.id → AcceptLeft es who.id who.side items → Allows (MayAs who.id) StandsAfter es (poll_asks (record { who = who; left = items }))
      polled es items w n m l =
          allows_polls (MayAs who.id) who StandsBefore StandsAfter
          (λ fs given item its k. fine_front fs given item its k.works k.marked k.so_far)
          (λ fs its k. waits fs its k.works k.marked k.so_far) (λ fs given k. ends fs given k.marked k.so_far) 64 items es (record { works = w; marked = m; so_far = Asking items n l })
