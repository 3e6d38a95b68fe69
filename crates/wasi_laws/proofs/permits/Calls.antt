-- What calls of streams are let write, along their trees: each call in them is walked with the law of what was let write before it,
-- and a write with that of its own bytes too.
use Rattle.wasi_laws.proofs.Words.{◌≡◌, ⊤, ℕ, Bool, true, false, List, [], ◌∷◌, ◌++◌, Option, Some, None, Result, refl, sym, ap, subst, append-nil, if◌then◌else◌, is_same, length, OpId, Entry, WasiSocketsCtx, Asks, Give, bind, Allows, allows_then, Has, Base, Machine, Streams, TcpRecord, WriteState, nat_lt, taken_in, Own, Used, Unused, ToConnect, ToWrite, Here, Over, Step, Walks, own_of, output_at, record_in, let_begin, writer_in, writer_of_record}
use Rattle.wasi_tcp.specs.declared.writer.WriteState.TheVariants as writing
use Rattle.host_store.specs.CallStops.{CallStop}
use Rattle.wasi_records.specs.Records.{tcp2_at}
use Rattle.host_streams.specs.StreamCalls.{write_asks}
use Rattle.wasi_walks.proofs.walks.Moves.{Names, Leaves}
use Rattle.wasi_walks.proofs.walks.Law.{gives}
use Rattle.wasi_walks.proofs.walks.States.{OverWith}
use Rattle.wasi_walks.proofs.walks.Calls.{Calling, Called, reaching, write_asks_walks}
use Rattle.wasi_walks.proofs.walks.Writes.{AsLet, AsNone, may_begin, may_of, may_in, may_at, let_write as let_own}
use Rattle.wasi_laws.proofs.asks.Single.{single_law, single_along}
use Rattle.wasi_laws.proofs.shapes.Law.{Shaped}
use Rattle.wasi_laws.proofs.permits.Agreeing.{Agreeing, agrees_over}
use Rattle.wasi_laws.proofs.permits.Spent.{IsSpent, spent_own}
use Rattle.wasi_laws.proofs.permits.Law.{Kept, NotOffer, permits}
use Rattle.wasi_laws.proofs.permits.Lets.{Lets, lets_same, lets_all}
use Rattle.wasi_laws.proofs.permits.Taken.{Fronts}
use Rattle.wasi_laws.specs.Writes.{let_write, writer_at}

-- == what a write is let, said as the walks say it
module _ (side : OpId) where
  -- none of no bytes
  none_within : (permit : ℕ) (same past : Bool) → [] ≡ (if same then if past then [] else [] else (let none : List ℕ = [] in none))
  none_within permit true true = refl
  none_within permit true false = refl
  none_within permit false past = refl

  within_is : (half : OpId) (permit : ℕ) (bytes : List ℕ) (past same : Bool) → is_same half side ≡ same → let_own side (if past then Unused else ToWrite half bytes) ≡ (if same then if past then [] else bytes else [])
  within_is half permit bytes true true e = refl
  within_is half permit bytes true false e = refl
  within_is half permit bytes false true e = rw e refl
  within_is half permit bytes false false e = rw e refl

  writer_is : (w : WriteState) (bytes : List ℕ) → let_own side (may_begin w bytes) ≡ let_begin side bytes (Some w)
  writer_is (writing.Ready half permit) [] = none_within permit (is_same half.side side) (nat_lt permit 0)
  writer_is (writing.Ready half permit) (b ∷ bytes) = within_is half.side permit (b ∷ bytes) (nat_lt permit (length (b ∷ bytes))) (is_same half.side side) refl
  writer_is _ bytes = refl

  streams_is : (o : Option Streams) (bytes : List ℕ) → let_own side (may_of o bytes) ≡ let_begin side bytes (writer_in o)
  streams_is None bytes = refl
  streams_is (Some s) bytes = writer_is s.writer bytes

  record_is : (o : Option TcpRecord) (bytes : List ℕ) → let_own side (may_in o bytes) ≡ let_begin side bytes (writer_of_record o)
  record_is None bytes = refl
  record_is (Some r) bytes = streams_is r.streams bytes

  place_is : (m : Machine) (o : Option ℕ) (bytes : List ℕ) → let_own side (may_at m bytes o) ≡ let_begin side bytes (writer_of_record (record_in m o))
  place_is m None bytes = refl
  place_is m (Some place) bytes = record_is (tcp2_at m.store.records place) bytes

  pub write_is : (m : Machine) (output : ℕ) (bytes : List ℕ) → let_own side (may_at m bytes (output_at m output)) ≡ let_write side m output bytes
  write_is m output bytes = place_is m (output_at m output) bytes

  -- no bytes begin no write
  none_begin : (w : Option WriteState) → let_begin side [] w ≡ []
  none_begin None = refl
  none_begin (Some (writing.Ready half permit)) = sym (none_within permit (is_same half.side side) (nat_lt permit 0))
  none_begin (Some _) = refl

-- what may begin is a write, or nothing
abbrev IsWrite : Own → Type 0
IsWrite Unused = ⊤
IsWrite (ToWrite at bytes) = ⊤
IsWrite _ = ⊥

write_begin : (w : WriteState) (bytes : List ℕ) → IsWrite (may_begin w bytes)
write_begin (writing.Ready half permit) [] = tt
write_begin (writing.Ready half permit) (b ∷ bytes) = by_permit (nat_lt permit (length (b ∷ bytes)))
  where
    by_permit : (past : Bool) → IsWrite (if past then Unused else ToWrite half.side (b ∷ bytes))
    by_permit true = tt
    by_permit false = tt
write_begin _ bytes = tt

write_of : (o : Option Streams) (bytes : List ℕ) → IsWrite (may_of o bytes)
write_of None bytes = tt
write_of (Some s) bytes = write_begin s.writer bytes

write_in : (o : Option TcpRecord) (bytes : List ℕ) → IsWrite (may_in o bytes)
write_in None bytes = tt
write_in (Some r) bytes = write_of r.streams bytes

write_at : (m : Machine) (bytes : List ℕ) (o : Option ℕ) → IsWrite (may_at m bytes o)
write_at m bytes None = tt
write_at m bytes (Some place) = write_in (tcp2_at m.store.records place) bytes

module _ (contexts : List WasiSocketsCtx) (side : OpId) (line : ℕ) (origin : Step) where
  -- so much was let write, and the line works on this
  abbrev pub Holds : List ℕ → List Entry → Here → Type 0
  Holds given es h = Base contexts line origin h × (Shaped h × Kept side given line es h)

  -- the line is over
  abbrev pub Ends : {A : Type 0} → List ℕ → List Entry → A × Machine → Type 0
  Ends given es done = Holds given es (Over done.1)

  -- such bytes are let write along the tree, and then the line is over
  abbrev pub Gives : {A : Type 0} → List ℕ → List Entry → (List Entry → List ℕ) → Asks (A × Machine) → Type 0
  Gives given es more asks = Lets side Ends (λ gs. given ++ more gs) es asks

  -- no bytes begin no write
  pub none_lets : {A : Type 0} (given : List ℕ) (es : List Entry) (m : Machine) (output : ℕ) (asks : Asks (A × Machine)) → Gives given es (λ gs. []) asks → Gives given es (λ gs. let_write side m output []) asks
  none_lets given es m output asks h = lets_same side Ends (λ gs. given ++ []) (λ gs. given ++ let_write side m output []) (λ gs. ap (λ (more : List ℕ). given ++ more) (sym (none_begin side (writer_at m output)))) es asks h

  -- what was let write before, said otherwise
  pub same_given : (given now : List ℕ) (es : List Entry) (h : Here) → given ≡ now → Holds given es h → Holds now es h
  same_given given now es h e i = subst (λ (bytes : List ℕ). Holds bytes es h) e i

  -- == calls of streams, for the line n
  module _ (n : ℕ) (handles : List ℕ) where
    -- so much was let write, and the calls go on
    abbrev pub So : List ℕ → List Entry → Option (ℕ × ℕ) → Machine → Type 0
    So given es at m = Holds given es (Calling n handles at Used m)

module _ (contexts : List WasiSocketsCtx) (side : OpId) (line : ℕ) (origin : Step) (no_offer : NotOffer origin) where
  -- what writes nothing more, along a walk
  pub along : {A : Type 0} (given : List ℕ) {h : Here} {end : A → Here} {asks : Asks A} → Walks (single_law contexts line origin (permits side given line contexts origin no_offer)) h end asks → (es : List Entry) → Holds contexts side line origin given es h → Allows (Fronts side given) (λ fs a. Holds contexts side line origin given fs (end a)) es asks
  along given w es i = single_along contexts line origin (permits side given line contexts origin no_offer) w es i.0 i.1.0 i.1.1

  -- none, where it is walked so
  pub over : {A : Type 0} (given : List ℕ) {h : Here} {asks : Asks (A × Machine)} → Walks (single_law contexts line origin (permits side given line contexts origin no_offer)) h OverWith asks → (es : List Entry) → Holds contexts side line origin given es h → Gives contexts side line origin given es (λ gs. []) asks
  over given {asks = asks} w es i = lets_same side (Ends contexts side line origin) (λ gs. given) (λ gs. given ++ []) (λ gs. sym (append-nil given)) es asks (lets_all side (Ends contexts side line origin) given es asks (along given w es i))

  -- == calls of streams, for the line n
  module _ (n : ℕ) (handles : List ℕ) where
    -- they are over
    leaves : (given : List ℕ) (es : List Entry) (at : Option (ℕ × ℕ)) (m : Machine) → So contexts side line origin n handles given es at m → Holds contexts side line origin given es (Over m)
    leaves given es at m i = let done : Unit {0} × Machine = (tt, m) in along given {end = OverWith} {asks = Give done} (gives _ (Leaves _)) es i

    -- nothing more is let write
    pub gone : {A : Type 0} (given : List ℕ) (es : List Entry) (at : Option (ℕ × ℕ)) (done : A × Machine) → So contexts side line origin n handles given es at done.1 → Gives contexts side line origin given es (λ gs. []) (Give done)
    gone given es at done i = same_given contexts side line origin given (given ++ []) es (Over done.1) (sym (append-nil given)) (leaves given es at done.1 i)

    -- so much more is to be written
    to_write : (given : List ℕ) (es : List Entry) (at : Option (ℕ × ℕ)) (m : Machine) (where_to : OpId) (bytes : List ℕ) → So contexts side line origin n handles given es at m → Holds contexts side line origin (given ++ let_own side (ToWrite where_to bytes)) es (Calling n handles at (ToWrite where_to bytes) m)
    to_write given es at m where_to bytes i =
        let f = i.0.0 in let k = i.0.1 in let p = i.1.1 in (
          (record { records = f.records; udps = f.udps; stands = f.stands }, record { one = k.one; apart = k.apart; older = k.older; named = k.named; held = k.held; udps = record { one = k.udps.one; apart = k.udps.apart; older = k.udps.older } }, (i.0.2.0, tt, i.0.2.2), i.0.3),
          (i.1.0, record { held = given; stands = agrees_over side (taken_in side es) given m.store.records (spent_own side line Used (ToWrite where_to bytes) m.store.records (λ x o. o)) (subst (λ (held : List ℕ). Agreeing side (IsSpent side line (Over m)) (taken_in side es) held m.store.records) p.owes p.stands); owes = refl }),
        )

    -- a write, by what may begin
    module _ (given : List ℕ) (es : List Entry) (at : Option (ℕ × ℕ)) (m : Machine) (output : ℕ) (named : Has handles output) (bytes : List ℕ) (i : So contexts side line origin n handles given es at m) where
      abbrev Wrote : List ℕ → Type 0
      Wrote all = Allows (Fronts side all) (λ fs done. Holds contexts side line origin all fs (Called n handles (reaching at n (output_at m output)) Used done)) es (write_asks m (own_of n) output bytes)

      wrote : (own : Own) → IsWrite own → may_at m bytes (output_at m output) ≡ own → Wrote (given ++ let_own side own)
      wrote Unused k e = along (given ++ []) (write_asks_walks m output named bytes (AsNone refl e)) es (same_given contexts side line origin given (given ++ []) es _ (sym (append-nil given)) i)
      wrote (ToWrite where_to b) k e = along (given ++ let_own side (ToWrite where_to b)) (write_asks_walks m output named bytes (AsLet (sym e))) es (to_write given es at m where_to b i)
      wrote Used k e = absurd k
      wrote (Names part) k e = absurd k
      wrote (ToConnect place) k e = absurd k

      pub write_lets : Wrote (given ++ let_write side m output bytes)
      write_lets = subst (λ (more : List ℕ). Wrote (given ++ more)) (write_is side m output bytes) (wrote (may_at m bytes (output_at m output)) (write_at m bytes (output_at m output)) refl)

      -- the write is the last
      pub writes_last : {A : Type 0} (g : Result (Unit {0}) CallStop × Machine → A × Machine) → ((done : Result (Unit {0}) CallStop × Machine) → (g done).1 ≡ done.1) → Gives contexts side line origin given es (λ gs. let_write side m output bytes) (bind (write_asks m (own_of n) output bytes) (λ done. Give (g done)))
      writes_last g same =
          let all = given ++ let_write side m output bytes in
          let now = reaching at n (output_at m output) in
          let asks = write_asks m (own_of n) output bytes in
          lets_all side (Ends contexts side line origin) all es (bind asks (λ done. Give (g done)))
          (allows_then (Fronts side all) (λ fs done. So contexts side line origin n handles all fs now done.1) ((Ends contexts side line origin) all) es asks (λ done. Give (g done)) write_lets (λ fs done j. subst (λ (x : Machine). Holds contexts side line origin all fs (Over x)) (sym (same done)) (leaves all fs now done.1 j)))
