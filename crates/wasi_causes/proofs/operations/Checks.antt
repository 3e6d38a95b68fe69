-- What polls of operations share that ask nothing last: how one ends with a code, and how a check comes out.
use Rattle.wasi_causes.proofs.Words.{AccessDenied, Asks, Check, End, Entry, ErrorCode, Given, IpSocketAddress, IsVerdict, Item, LastAsk, List, Nothing, NothingLast, Operation, SocketAddrUse, Told}
use Rattle.wasi_causes.proofs.Words.{[], after, entry, last_ask, refl, round, subst, sym, told_verdict, verdict_front, ◌++◌, ◌∷◌, ◌≡◌}
use Rattle.wasi_world.specs.declared.call.Call.TheVariants as call
use Rattle.wasi_world.specs.declared.call.Told.TheVariants as told
use Rattle.wasi_causes.proofs.operations.Polls.{EndsFor}
use Rattle.wasi_causes.proofs.tables.Meets.{Meets, ends}

module _ (op : Operation) (plain : op.who.last ≡ NothingLast) (again : List Item → Asks (End × List Item)) (Why : List Entry → ErrorCode → Type 0) where
  -- it ended with a code
  pub stops : (es : List Entry) (c : ErrorCode) (given : Given) → Why es c → Meets (EndsFor op Why) es (last_ask op.who op.who.last c given)
  stops es c given why = subst (λ (last : LastAsk). Meets (EndsFor op Why) es (last_ask op.who last c given)) (sym plain) (ends why)

  -- a check was answered
  pub by_verdict : (es : List Entry) (a : IpSocketAddress) (usage : SocketAddrUse) (items : List Item) → Why (es ++ entry op.who.id (call.Check op.who.context a usage) told.No ∷ []) AccessDenied → ((fs : List Entry) → Meets (EndsFor op Why) fs (round again op.who Nothing items))
      → (t : Told) → IsVerdict t → Meets (EndsFor op Why) (es ++ entry op.who.id (call.Check op.who.context a usage) t ∷ []) (after again op.who items (λ g. round again op.who g items) (verdict_front (Check a usage) (told_verdict t)))
  by_verdict es a usage items why next told.Yes fits = next _
  by_verdict es a usage items why next told.No fits = stops _ AccessDenied Nothing why
  by_verdict es a usage items why next told.Pending fits = ends (record { front = es; last = _; cut = refl; op = refl; told = refl })
  by_verdict es a usage items why next _ fits = absurd fits
