-- A poll marks no handle, whatever is polled, and its operation asks all that it asks.
use Rattle.wasi_walks.proofs.Fronts.{AsksBy, Checks, PollLaw, polls_by}
use Rattle.wasi_causes.proofs.Words.{⊤, ◌≡◌, List, [], refl, arith, ErrorCode, OpId, Call, Entry, bind, Given, Item, LastAsk, NothingLast, Who, Operation, End, last_ask, poll_asks, Allows, allows_keep, marked_by, marks_in, marks_in-push, Gives, gives_more, allows_ask}

abbrev IsOwn : Who → List Entry → OpId → Call → Type 0
IsOwn who es op call = (op ≡ who.id) × (marked_by call ≡ 0)

abbrev pub AnyEnd : List Entry → End × List Item → Type 0
AnyEnd es ended = ⊤

module _ (who : Who) where
  last_unmarked : (last : LastAsk) (es : List Entry) (c : ErrorCode) (given : Given) → Allows (IsOwn who) AnyEnd es (last_ask who last c given)
  unfolding bind
  last_unmarked NothingLast es c given = tt
  last_unmarked _ es c given = ((refl, refl), λ t fits. tt)

  -- no item asks for a mark
  unmarked : (i : Item) (c : Call) → AsksBy who i c → marked_by c ≡ 0
  unmarked _ _ (Checks a usage) = refl
  unmarked _ _ _ = refl

  own_law : PollLaw (IsOwn who) who (λ es items. ⊤) AnyEnd
  own_law = record {
    asks = λ es i items c a k. ((refl, unmarked i c a), λ told fits. tt);
    writes = λ es b bytes items k. ((refl, refl), λ told fits front. tt);
    becomes = λ es i j items b k. tt;
    drops = λ es i items spent k. tt;
    ends = λ es i items c given k. last_unmarked who.last es c given;
    waits = λ es items k. tt;
    done = λ es given g k. tt;
  }

owned : (op : Operation) (before : List Entry) → Allows (IsOwn op.who) AnyEnd before (poll_asks op)
owned op before = polls_by (own_law op.who) op.left before tt

pub poll_asks_by : (op : Operation) (before : List Entry) → Allows (λ es o call. o ≡ op.who.id) AnyEnd before (poll_asks op)
poll_asks_by op before = allows_ask (IsOwn op.who) (λ es o call. o ≡ op.who.id) AnyEnd (λ es o call h. h.0) before (poll_asks op) (owned op before)

pub poll_unmarked : (op : Operation) (before : List Entry) → Allows (λ es o call. marked_by call ≡ 0) AnyEnd before (poll_asks op)
poll_unmarked op before = allows_ask (IsOwn op.who) (λ es o call. marked_by call ≡ 0) AnyEnd (λ es o call h. h.1) before (poll_asks op) (owned op before)

pub poll_marks_none : (op : Operation) → Gives (λ es ended. marks_in es ≡ 0) [] (poll_asks op)
poll_marks_none op =
    gives_more (λ es ended. (marks_in es ≡ 0) × AnyEnd es ended) (λ es ended. marks_in es ≡ 0) (λ es ended h. h.0) [] (poll_asks op)
    (allows_keep (IsOwn op.who) (λ es op call. ⊤) (λ es. marks_in es ≡ 0) AnyEnd
    (λ es o call told fits none unmarked. let p = marks_in-push es (record { op = o; call = call; answer = told }) in let h = unmarked.1 in omega arith)
    (λ es op call unmarked. tt) [] (poll_asks op) refl (owned op []))
