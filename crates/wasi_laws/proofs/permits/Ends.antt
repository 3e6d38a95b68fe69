-- What a write of 0.3 is let write: what was taken of the bytes that it offers, once that is answered.
use Rattle.std.specs.Prelude.{◌≡◌, ℕ, Bool, true, false, if◌then◌else◌, take, length, List, [], ◌∷◌, ◌++◌, Option, Some, None, Result, Ok, Err, refl, ⊤}
use Rattle.std.proofs.Common.{◌∙◌, ap, sym, subst, inl, inr}
use Rattle.wasi_addr.specs.declared.address.ShutdownType.{ShutdownType}
use Rattle.wasi_addr.specs.declared.address.ShutdownType.TheVariants.{Send}
use Rattle.wasi_addr.specs.declared.code.ErrorCode.{ErrorCode}
use Rattle.wasi_world.specs.declared.call.Call.{Call}
use Rattle.wasi_world.specs.declared.call.Call.TheVariants as call
use Rattle.wasi_world.specs.declared.call.Entry.{Entry}
use Rattle.wasi_world.specs.declared.call.Told.{Told}
use Rattle.wasi_world.specs.declared.call.Told.TheVariants as told
use Rattle.wasi_world.specs.declared.ids.OpId.{OpId}
use Rattle.wasi_world.specs.declared.outcome.Answer.{Answer}
use Rattle.wasi_world.specs.declared.outcome.Answer.TheVariants.{Ready, Pending}
use Rattle.wasi_world.specs.declared.outcome.WasiSocketsCtx.{WasiSocketsCtx}
use Rattle.wasi_world.specs.Asks.{Asks, Give, Ask, AskWrite, bind, IsFront}
use Rattle.wasi_world.specs.Sides.{is_same}
use Rattle.wasi_world.specs.Typed.{told_taken}
use Rattle.wasi_tcp.specs.declared.halves.TcpSendStream.{TcpSendStream}
use Rattle.wasi_tcp.specs.declared.writer.WriteState.{WriteState}
use Rattle.wasi_tcp.specs.declared.writer.WriteState.TheVariants as writing
use Rattle.wasi_tcp.specs.Halves.{polled_answer}
use Rattle.wasi_tcp.specs.Taken.{IsFrontOf, taken_by, taken_in, took}
use Rattle.wasi_records.specs.declared.records.Record.{Record}
use Rattle.tcp_records.specs.declared.slot.StreamResult.{StreamResult}
use Rattle.tcp_records.specs.declared.slot.StreamResult.TheVariants.{Dropped}
use Rattle.tcp_records.specs.declared.socket.Streams.{Streams}
use Rattle.tcp_records.specs.declared.socket.TcpRecord.{TcpRecord}
use Rattle.tcp_records.specs.Ends.{ends_of, half_of, look_to_write, send_half, send_in, some_told}
use Rattle.record_common.specs.Names.{own_of}
use Rattle.wasi_records.specs.Records.{tcp2_at, tcp2_put}
use Rattle.tcp_records.specs.Slots.{StreamEnd}
use Rattle.host_store.specs.declared.kind.ConnectionEnd.{ConnectionEnd}
use Rattle.host_store.specs.declared.machine.Machine.{Machine}
use Rattle.host_store.specs.Block.{after_call, give as ends_with, last, or_trap}
use Rattle.host_tcp.specs.EndPolls.{ends_by, looked, write_end, write_of, write_open, write_told}
use Rattle.host_store.specs.BaseStops.{BaseStop, renamed}
use Rattle.wasi_walks.proofs.fits.Datagrams.{at_kept}
use Rattle.wasi_walks.proofs.fits.DatagramFacts.{tcp_held}
use Rattle.host_store.specs.Lines.{same_stop, storing}
use Rattle.wasi_addr.specs.Code.{p3_of_code}
use Rattle.host_store.specs.Machine.{send3_at}
use Rattle.host_store.specs.Store.{Records}
use Rattle.wasi_p3.specs.Lines.{in_base}
use Rattle.wasi_p3.specs.Stops.{P3Stop}
use Rattle.wasi_p3.specs.Streams.{write}
use Rattle.wasi_steps.specs.declared.step.Step.{Step}
use Rattle.wasi_steps.specs.declared.step.Step.TheVariants as step
use Rattle.wasi_walks.proofs.Places.{put_again, tcp_sort}
use Rattle.wasi_walks.proofs.walks.Ends.{close_walks}
use Rattle.wasi_walks.proofs.walks.Law.{Law, Walks, and_so, and_then, ask, from, give, gives, move, put_same}
use Rattle.wasi_walks.proofs.walks.Moves.{Here, IsOn, Leaves, OfWriter, Spends, Unused, Used, put}
use Rattle.wasi_walks.proofs.walks.States.{At, Over, OverIn, OverWith, Starts, there}
use Rattle.wasi_walks.specs.Licence.{entry}
use Rattle.wasi_laws.proofs.Words.{Base, append-nil, side_of, writer_side}
use Rattle.wasi_laws.proofs.asks.Single.{single_law}
use Rattle.wasi_laws.proofs.permits.Law.{permits}
use Rattle.wasi_laws.proofs.permits.Spent.{IsSpent}
use Rattle.wasi_laws.proofs.permits.Agreeing.{Agree, AgreeIn, Agreeing, Agrees, agrees_moved}
use Rattle.wasi_laws.proofs.permits.Calls.{Ends, Gives, Holds, along, over, same_given}
use Rattle.wasi_laws.proofs.permits.Lets.{Lets, lets_all, lets_same}
use Rattle.wasi_laws.proofs.permits.Taken.{taken_more, taken_push}
use Rattle.wasi_laws.proofs.shapes.Shape.{on_socket, same_side}
use Rattle.wasi_laws.specs.Writes.{half_at, half_by, let_end, let_offer, let_taken}

-- == walks of its parts
module _ {contexts : List WasiSocketsCtx} {line : ℕ} {origin : Step} {law : Law contexts line origin} (m : Machine) (slot place : ℕ) (q : m.store.standing ≡ None) where
  ends_walks : (ended : StreamEnd) → Walks law (At line m place Used) (OverIn m) (ends_by {A = ℕ} (own_of line) Send slot place ended m.store)
  ends_walks ended = and_so (λ done. (Ok done.0, done.1)) (after_call same_stop (λ (store now : Records). now) (λ done. ends_with (Ready Dropped)) m.store) (close_walks m Send place slot ended q) (λ done. give _)

  wrote_walks : (told : Result (Option (Answer ℕ)) ErrorCode) → Walks law (At line m place Used) (OverIn m) (write_told (own_of line) true slot place told m.store)
  wrote_walks (Ok (Some (Ready count))) = gives _ (Leaves _)
  wrote_walks (Ok (Some Pending)) = gives _ (Leaves _)
  wrote_walks (Ok None) = gives _ (Leaves _)
  wrote_walks (Err c) = ends_walks (Err c)

  look_walks : (r : TcpRecord) → tcp2_at m.store.records place ≡ Some r → (half : TcpSendStream) → IsOn r half.side → Walks law (At line m place Used) (OverIn m) (write_open (own_of line) true [] slot place (Some half) m.store)
  unfolding bind
  look_walks r g half on =
      from (put_same (At line m place Used) place r g)
      (ask (there {h = At line m place Used} g) r refl on (refl, tt) (λ told fits. from (sym (put_same (At line m place Used) place r g)) (gives _ (Leaves _))))

-- The half to write by is of the record's streams.
record WritesBy (r : TcpRecord) (half : TcpSendStream) : Type 0 where
  streams : Streams
  have : r.streams ≡ Some streams
  permit : ℕ
  writer : streams.writer ≡ writing.Ready half permit

writes_by : (r : TcpRecord) (half : TcpSendStream) → send_half r ≡ Some half → WritesBy r half
writes_by r half e = by_streams r.streams refl e
  where
    by_writer : (s : Streams) → r.streams ≡ Some s → (w : WriteState) → s.writer ≡ w → send_in w ≡ Some half → WritesBy r half
    by_writer s q (writing.Ready it permit) p e = let same : it ≡ half = cc in record { streams = s; have = q; permit = permit; writer = p ∙ ap (λ (x : TcpSendStream). writing.Ready x permit) same }
    by_writer s q _ p e = absurd (cc)

    by_streams : (o : Option Streams) → r.streams ≡ o → send_in (ends_of o).writer ≡ Some half → WritesBy r half
    by_streams None q e = absurd (cc)
    by_streams (Some s) q e = by_writer s q s.writer refl e

-- what was taken is a front of what was offered
front_took : (told : Told) (bytes : List ℕ) → IsFront told bytes → took told ≡ take (length (took told)) bytes
front_took (told.Took taken) bytes front = front
front_took _ bytes front = refl

-- what follows asks nothing
lets_on : (side : OpId) {A B : Type 0} (R : List ℕ → List Entry → A → Type 0) (Q : List ℕ → List Entry → B → Type 0) (f : A → Asks B) → ((all : List Entry → List ℕ) (fs : List Entry) (a : A) → R (all []) fs a → Lets side Q all fs (f a))
    → (all : List Entry → List ℕ) (es : List Entry) (asks : Asks A) → Lets side R all es asks → Lets side Q all es (bind asks f)
unfolding bind
lets_on side R Q f k all es (Give a) h = k all es a h
lets_on side R Q f k all es (Ask op c next) h = (h.0, λ told fits. lets_on side R Q f k _ _ (next told) (h.1 told fits))
lets_on side R Q f k all es (AskWrite op sock bytes next) h = (h.0, λ told fits front. lets_on side R Q f k _ _ (next told) (h.1 told fits front))

module _ (contexts : List WasiSocketsCtx) (side : OpId) (line : ℕ) (s : Step) (given : List ℕ) (es : List Entry) (m : Machine) (bytes : List ℕ) (q : m.store.standing ≡ None) (i : Holds contexts side line s given es (Starts m Unused)) where
  abbrev Ended : List ℕ → List Entry → Result (Answer (StreamResult ℕ)) BaseStop × Records → Type 0
  Ended bytes fs done = Holds contexts side line s bytes fs (OverIn m done)

  abbrev Along : (List Entry → List ℕ) → Asks (Result (Answer (StreamResult ℕ)) BaseStop × Records) → Type 0
  Along more asks = Lets side Ended (λ gs. given ++ more gs) es asks

  as_given : (h : Here) → Holds contexts side line s given es h → Holds contexts side line s (given ++ []) es h
  as_given h k = same_given contexts side line s given (given ++ []) es h (sym (append-nil given)) k

  -- what writes nothing
  quiet : {asks : Asks (Result (Answer (StreamResult ℕ)) BaseStop × Records)} → Walks (single_law contexts line step.Turn (permits side (given ++ []) line contexts step.Turn tt)) (Starts m Unused) (OverIn m) asks → Along (λ gs. []) asks
  quiet {asks} w = lets_all side Ended (given ++ []) es asks (along contexts side line step.Turn tt (given ++ []) w es (as_given (Starts m Unused) i))

  spent : Holds contexts side line s given es (Over m)
  spent = let done : Unit {0} × Machine = (tt, m) in along contexts side line step.Turn tt given {end = OverWith} {asks = Give done} (gives _ (Spends _ refl)) es i

  -- on the record of a place
  module _ (slot place : ℕ) (r : TcpRecord) (g : tcp2_at m.store.records place ≡ Some r) where
    based : Base contexts line s (At line m place Used)
    based =
        let f = spent.0.0 in let n = spent.0.1 in (
          record { records = f.records; udps = f.udps; stands = f.stands },
          record { one = n.one; apart = n.apart; older = n.older; named = n.named; held = n.held; udps = record { one = n.udps.one; apart = n.udps.apart; older = n.udps.older } },
          spent.0.2,
          at_kept m.store.records place line (tcp_held m.store.records place r g) spent.0.3,
        )

    looks : (half : TcpSendStream) → WritesBy r half → Along (λ gs. []) (write_open (own_of line) true [] slot place (Some half) m.store)
    looks half w =
        let k = as_given (Over m) spent in
        lets_all side Ended (given ++ []) es _ (along contexts side line step.Turn tt (given ++ []) (look_walks m slot place q r g half (OfWriter w.streams w.have (ap writer_side w.writer))) es (based, (k.1.0, k.1.1)))

    -- what it was let write
    module _ (half : TcpSendStream) (w : WritesBy r half) (offered : List ℕ) where
      its_side : side_of r.inner ≡ Some half.side
      its_side = on_socket r half.side (spent.1.0 place r g) (OfWriter w.streams w.have (ap writer_side w.writer))

      its_made : r.side ≡ Some half.side
      its_made = spent.0.1.named half.side place r g its_side

      abbrev More : Bool → Told → List ℕ
      More ours told = if ours then take (length (took told)) offered else []

      abbrev Wrote : Told → List Entry
      Wrote told = es ++ entry (own_of line) (call.Write half.side (length offered)) told ∷ []

      stands : Agreeing side (IsSpent side line (Over m)) (taken_in side es) given m.store.records
      stands = subst (λ (held : List ℕ). Agreeing side (IsSpent side line (Over m)) (taken_in side es) held m.store.records) spent.1.1.owes spent.1.1.stands

      taken_so : (ours : Bool) → is_same half.side side ≡ ours → (told : Told) → IsFront told offered → taken_in side (Wrote told) ≡ taken_in side es ++ More ours told
      taken_so ours e told front = taken_more side es (entry (own_of line) (call.Write half.side (length offered)) told) ∙ ap (λ (more : List ℕ). taken_in side es ++ more) (by_side ours e)
        where
          by_side : (b : Bool) → is_same half.side side ≡ b → taken_by side (call.Write half.side (length offered)) told ≡ More b told
          by_side true e = ap (λ (b : Bool). (let xs : List ℕ = if b then took told else [] in xs)) e ∙ front_took told offered front
          by_side false e = ap (λ (b : Bool). (let xs : List ℕ = if b then took told else [] in xs)) e

      stands_now : (ours : Bool) → is_same half.side side ≡ ours → (told : Told) → IsFront told offered → Agreeing side (IsSpent side line (Over m)) (taken_in side (Wrote told)) (given ++ More ours told) m.store.records
      stands_now true e told front =
          let is = same_side half.side side e in
          let of : r.side ≡ Some side = its_made ∙ ap (λ (x : OpId). Some x) is in
          let all : taken_in side es ≡ given = subst (Agrees (taken_in side es) given) w.writer (subst (Agree (taken_in side es) given) w.have (stands.lives place r g (of, inl (its_side ∙ ap (λ (x : OpId). Some x) is))).0) in
          let now : taken_in side (Wrote told) ≡ given ++ More true told = taken_so true e told front ∙ ap (λ (xs : List ℕ). xs ++ More true told) all in
          subst (λ (records : List Record). Agreeing side (IsSpent side line (Over m)) (taken_in side (Wrote told)) (given ++ More true told) records) (put_again tcp_sort m.store.records place r g)
          (agrees_moved side m.store.records place r r g refl (taken_in side es) given (taken_in side (Wrote told)) (given ++ More true told) of (λ j x d v. spent.0.1.one side j place x r d g (inl v) (inl of)) ([], append-nil (taken_in side (Wrote told)) ∙ now)
          (subst (Agree (taken_in side (Wrote told)) (given ++ More true told)) (sym w.have) (subst (Agrees (taken_in side (Wrote told)) (given ++ More true told)) (sym w.writer) now), λ free. now) stands)
      stands_now false e told front =
          subst (λ (taken : List ℕ). Agreeing side (IsSpent side line (Over m)) taken (given ++ []) m.store.records) (sym (taken_so false e told front ∙ append-nil (taken_in side es)))
          (subst (λ (held : List ℕ). Agreeing side (IsSpent side line (Over m)) (taken_in side es) held m.store.records) (sym (append-nil given)) stands)

      goes : (ours : Bool) (told : Told) → is_same half.side side ≡ ours → IsFront told offered → Lets side Ended (λ gs. given ++ More ours told) (Wrote told) (write_told (own_of line) true slot place (some_told (polled_answer (told_taken told))) m.store)
      goes ours told e front =
          lets_all side Ended (given ++ More ours told) (Wrote told) _ (along contexts side line step.Turn tt (given ++ More ours told) (wrote_walks m slot place q (some_told (polled_answer (told_taken told)))) (Wrote told)
          (based, (spent.1.0, record { held = given ++ More ours told; stands = stands_now ours e told front; owes = refl })))

    fronts : (ours : Bool) → IsFrontOf (taken_in side es) (given ++ (let none : List ℕ = if ours then [] else [] in none))
    fronts true = subst (IsFrontOf (taken_in side es)) (sym (append-nil given)) (subst (IsFrontOf (taken_in side es)) spent.1.1.owes spent.1.1.stands.front)
    fronts false = subst (IsFrontOf (taken_in side es)) (sym (append-nil given)) (subst (IsFrontOf (taken_in side es)) spent.1.1.owes spent.1.1.stands.front)

    offers : (half : TcpSendStream) → WritesBy r half → (b : ℕ) (rest : List ℕ) (ours : Bool) → is_same half.side side ≡ ours
        → Lets side Ended (λ gs. given ++ (if ours then let_taken (take 4294967295 (b ∷ rest)) gs else [])) es (write_open (own_of line) true (b ∷ rest) slot place (Some half) m.store)
    unfolding bind
    offers half w b rest true e = (fronts true, λ told fits front. goes half w (take 4294967295 (b ∷ rest)) true told e front)
    offers half w b rest false e = (fronts false, λ told fits front. goes half w (take 4294967295 (b ∷ rest)) false told e front)

    by_half : (bytes : List ℕ) (o : Option TcpSendStream) → send_half r ≡ o → Along (let_offer side bytes o) (write_open (own_of line) true bytes slot place o m.store)
    unfolding bind
    by_half [] None p = quiet (gives (Ok (Ready Dropped), m.store) (Spends _ refl))
    by_half (b ∷ rest) None p = quiet (gives (Ok (Ready Dropped), m.store) (Spends _ refl))
    by_half [] (Some half) p = looks half (writes_by r half p)
    by_half (b ∷ rest) (Some half) p = offers half (writes_by r half p) b rest (is_same half.side side) refl

  none_there : (bytes : List ℕ) (slot place : ℕ) → Along (λ gs. []) (write_open (own_of line) true bytes slot place None m.store)
  unfolding bind
  none_there [] slot place = quiet (gives (Ok (Ready Dropped), m.store) (Spends _ refl))
  none_there (b ∷ rest) slot place = quiet (gives (Ok (Ready Dropped), m.store) (Spends _ refl))

  by_socket : (slot : ℕ) (socket : Option ℕ) → Along (let_offer side bytes (half_at m socket)) (write_of (own_of line) true bytes slot socket m.store)
  by_socket slot None = quiet (gives (Ok (Ready Dropped), m.store) (Spends _ refl))
  by_socket slot (Some place) = by_record (tcp2_at m.store.records place) refl
    where
      by_record : (o : Option TcpRecord) → tcp2_at m.store.records place ≡ o → Along (let_offer side bytes (half_of send_half o)) (write_open (own_of line) true bytes slot place (half_of send_half o) m.store)
      by_record None g = none_there bytes slot place
      by_record (Some r) g = by_half slot place r g bytes (send_half r) refl

  by_end : (o : Option ConnectionEnd) → Gives contexts side line s given es (let_offer side bytes (half_by m o)) (or_trap (λ end. last (in_base (write_end (own_of line) true bytes end))) m o)
  by_end None = as_given (Over m) spent
  by_end (Some end) = lets_on side Ended (Ends contexts side line s) _ over_so (λ gs. given ++ let_offer side bytes (half_at m end.socket) gs) es (write_of (own_of line) true bytes end.slot end.socket m.store) (by_socket end.slot end.socket)
    where
      over_so : (all : List Entry → List ℕ) (fs : List Entry) (done : Result (Answer (StreamResult ℕ)) BaseStop × Records) → Ended (all []) fs done → Lets side (Ends contexts side line s) all fs (after_call (renamed p3_of_code) storing ends_with m done)
      over_so all fs (Ok a, store) k = k
      over_so all fs (Err why, store) k = k

pub end_lets : (contexts : List WasiSocketsCtx) (side : OpId) (line : ℕ) (s : Step) (given : List ℕ) (es : List Entry) (m : Machine) (handle : ℕ) (bytes : List ℕ) → m.store.standing ≡ None → Holds contexts side line s given es (Starts m Unused) → Gives contexts side line s given es (let_end side m handle bytes) (write (own_of line) true bytes handle m)
end_lets contexts side line s given es m handle bytes q i = by_end contexts side line s given es m bytes q i (send3_at m handle)
