-- How a poll of a connect ends; where it is done all that was left was allowed and done.
use Rattle.wasi_causes.proofs.Words.{◌≡◌, ⊤, ◌∷◌, ◌++◌, ap, List, [], refl, ClosedBy, Done, End, EndsPending, Entry}
use Rattle.wasi_causes.proofs.Words.{IsConnect, Item, Operation, Refused, Waits, Who, entry, poll_asks}
use Rattle.wasi_walks.specs.Answered.{AllOf, IsAskOfConnect}
use Rattle.wasi_world.specs.declared.call.Call.TheVariants as call
use Rattle.wasi_world.specs.declared.call.Told.TheVariants as told
use Rattle.wasi_causes.proofs.operations.Polls.{EndsFor, connect_ends, connect_in_table}
use Rattle.wasi_causes.proofs.tables.Meets.{Meets, Rows, both, widen}
use Rattle.wasi_causes.specs.P3Connects.{passed_entries}
use Rattle.wasi_causes.specs.Polls.{ConnectToldDone, GoesOn, Passes, Polled, Stays, Stops, ToldYes, WasOver}

module _ (who : Who) where
  abbrev DoneSo : List Item → Rows (End × List Item)
  DoneSo items es (Done given, left) = es ≡ passed_entries who items
  DoneSo items es _ = ⊤

  passes_first : (item : Item) (items : List Item) (es fs : List Entry) → Passes who item es → IsAskOfConnect item → fs ≡ passed_entries who items → es ++ fs ≡ passed_entries who (item ∷ items)
  passes_first _ items _ fs (ToldYes a usage) of h = ap (λ (xs : List Entry). entry who.id (call.Check who.context a usage) told.Yes ∷ xs) h
  passes_first _ items _ fs (ConnectToldDone a) of h = ap (λ (xs : List Entry). entry who.id (call.Connect who.side a) told.Done ∷ xs) h
  passes_first _ items _ fs _ of h = absurd of

  then_done : (item : Item) (items : List Item) (es fs : List Entry) (end : End × List Item) → Passes who item es → IsAskOfConnect item → DoneSo items fs end → DoneSo (item ∷ items) (es ++ fs) end
  then_done item items es fs (Done given, left) passed of h = passes_first item items es fs passed of h
  then_done item items es fs (Waits, left) passed of h = tt
  then_done item items es fs (Refused c given, left) passed of h = tt

  done_so : (items : List Item) (es : List Entry) (end : End × List Item) → Polled who items es end → AllOf IsAskOfConnect items → DoneSo items es end
  done_so _ _ _ WasOver of = refl
  done_so _ _ _ (GoesOn item items es fs end passed row) of = then_done item items es fs end passed of.0 (done_so items fs end row of.1)
  done_so _ _ _ (Stays item now items es held) of = tt
  done_so _ _ _ (Stops item items es c broke) of = tt

-- it waits, or is done, or was closed with a code
abbrev pub ConnectEnd : Operation → Rows (End × List Item)
ConnectEnd op es (Waits, items) = EndsPending op.who.id es
ConnectEnd op es (Done given, items) = es ≡ passed_entries op.who op.left
ConnectEnd op es (Refused c given, items) = ClosedBy op es c

module _ (op : Operation) (its : IsConnect op × AllOf IsAskOfConnect op.left) where
  done_table : Meets (DoneSo op.who op.left) [] (poll_asks op)
  done_table = widen (λ es end row. done_so op.who op.left es end row its.1) (connect_in_table op its.1)

  pub connect_ends_so : Meets (ConnectEnd op) [] (poll_asks op)
  connect_ends_so = widen by_end (both (connect_ends op its) done_table)
    where
      by_end : (es : List Entry) (end : End × List Item) → EndsFor op (ClosedBy op) es end × DoneSo op.who op.left es end → ConnectEnd op es end
      by_end es (Waits, items) k = k.0
      by_end es (Done given, items) k = k.1
      by_end es (Refused c given, items) k = k.0
