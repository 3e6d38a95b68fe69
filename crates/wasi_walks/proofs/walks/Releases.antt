-- What goes with a handle, as moves: a socket and a listener release what they have, and an output waits for its writer.
use Rattle.wasi_walks.proofs.walks.Moves.{Changes, Frees, Freed, GivesBack, WhenIdle, IsUnheld, NoMore, NoStart, OfNothing, OfTcp, NoStartStands, Plain, Releases}
use Rattle.wasi_walks.proofs.walks.States.{Emptying}
use Rattle.wasi_walks.proofs.Words.{inl, inr, Answer, Asks, Bool, Give, Kind}
use Rattle.wasi_walks.proofs.Words.{List, Machine, None, Not, OpId, Option, Pending}
use Rattle.wasi_walks.proofs.Words.{Ready, Some, StandingCall, Step, Streams, Tcp2}
use Rattle.wasi_walks.proofs.Words.{TcpRecord, WasiSocketsCtx}
use Rattle.wasi_walks.proofs.Words.{bind, drop_output_at, drop_waits}
use Rattle.wasi_walks.proofs.Words.{false, give_streams_up, gone}
use Rattle.wasi_walks.proofs.Words.{own_of}
use Rattle.wasi_walks.proofs.Words.{refl, release_asks, release_at}
use Rattle.wasi_walks.proofs.Words.{side_of, true}
use Rattle.wasi_walks.proofs.Words.{wait_put, wait_writer, with_listening}
use Rattle.wasi_walks.proofs.Words.{ℕ, ◌≡◌}
use Rattle.wasi_world.specs.declared.ids.Ids.{Ids}
use Rattle.wasi_records.specs.Records.{tcp2_at}
use Rattle.tcp_records.specs.Holding.{drop_listener_asks, drop_socket_asks, is_held, let_go_by, without_socket}
use Rattle.host_tcp.specs.Dropping.{left_so, let_go_at, released}
use Rattle.wasi_walks.proofs.walks.Moves.{Used, Unused, Here, put, Spends, Leaves, IsGone, Stands}
use Rattle.wasi_walks.proofs.walks.Law.{Law, HasRecord, Walks, give, and_then, move, gives, from, found, on, put_same, ends, close, give_up, and_so}
use Rattle.wasi_tcp.specs.Closing.{close_in}
use Rattle.wasi_walks.proofs.walks.States.{OverIn, At, streams_are, none_stands, Put, there}
use Rattle.host_store.specs.declared.kind.Kind.TheVariants.{Listen3, Tcp3}
use Rattle.wasi_walks.proofs.walks.Streams.{drop_look_walks, reader_up_walks, writer_up_walks}

-- the handle of a socket of 0.3 goes
handle_gone : {goes begins : Type 0} (r : TcpRecord) → goes → Plain goes begins r (without_socket r)
handle_gone r its = record { side = refl; streams = refl; listening = refl; does = refl; maker = refl; counts = refl; family = refl; bound = λ side d b. b; stays = λ b. b; binds = inl refl; connects = λ e. inl e; dropped = inr its }

-- nothing holds the record that it works on, whose network socket goes where it has one
abbrev pub Freeing : Here → ℕ → Here
Freeing h place = record h { made = Freed place }

abbrev pub Gone : Here → ℕ → Bool × TcpRecord → Here
Gone h place (true, r) = put (Freeing h place) place r
Gone h place (false, r) = put h place r

module _ {contexts : List WasiSocketsCtx} {line : ℕ} {origin : Step} {law : Law contexts line origin} where
  -- == a drop
  module _ {h : Here} {place : ℕ} (here : HasRecord h place) (at : h.at ≡ Some (place, line)) (goes : Releases h place) where
    given_up_walks : (r : TcpRecord) (o : Option Streams) → r.streams ≡ o → Walks law (put h place r) (λ done. put h place r) (give_streams_up (own_of line) o)
    given_up_walks r None e = give _
    given_up_walks r (Some s) e =
        from (streams_are h place r s e) (and_then (reader_up_walks here at r s s.reader) (λ done. ends (λ done. streams_are h place r s e) (writer_up_walks here at r s s.writer)))

    closes_walks : (r : TcpRecord) (o : Option OpId) → side_of r.inner ≡ o → Walks law (put h place r) (λ done. put h place (gone r done.1)) (close_in (own_of line) r.inner o)
    unfolding bind
    closes_walks r None e = on here r _ (IsGone _ _ _ goes (found here r) e) (give _)
    closes_walks r (Some side) e = close here r goes e (λ told. give _)

    release_walks : (r : TcpRecord) → Walks law (put h place r) (λ done. put h place done.1) (release_asks (own_of line) r)
    release_walks r = let now = with_listening r Not in and_then (give_up here r goes.0 (OfNothing goes.1)) (λ done. and_then (given_up_walks now r.streams refl) (λ done. and_then (closes_walks now (side_of r.inner) refl) (λ done. give _)))

  -- the record is given back
  pub gone_walks : (kind : Kind) (m : Machine) (place : ℕ) (was : TcpRecord) → tcp2_at m.store.records place ≡ Some was → m.store.standing ≡ None → (r : TcpRecord) → Walks law (put (Freeing (Emptying line m place kind Unused) place) place r) (OverIn {A = Unit {0}} m) (Give (tt, released m.store place r))
  gone_walks kind m place was g q r = move (Spends _ refl) (move (GivesBack _ place (WhenIdle q) (OfTcp r refl (found (there {h = Freeing (Emptying line m place kind Used) place} g) r))) (gives _ (Leaves _)))

  pub release_at_walks : (m : Machine) (place : ℕ) (o : Option TcpRecord) → tcp2_at m.store.records place ≡ o → m.store.standing ≡ None → Walks law (Emptying line m place (Tcp2 place) Unused) (OverIn m) (release_at m.store (own_of line) place o)
  release_at_walks m place None g q = move (Spends _ refl) (gives _ (Leaves _))
  release_at_walks m place (Some r) g q =
      move (Frees _ place refl) (from (put_same (Freeing (Emptying line m place (Tcp2 place) Unused) place) place r g)
      (and_then (release_walks (there g) refl (none_stands q, refl) r) (λ done. gone_walks (Tcp2 place) m place r g q done.1)))

  -- what nothing holds any more is released
  pub let_go_walks : {h : Here} {place : ℕ} → HasRecord h place → h.at ≡ Some (place, line) → NoStart h → (r : TcpRecord) (held : Bool) → is_held r ≡ held → Walks law (put h place r) (Gone h place) (let_go_by (own_of line) r held)
  let_go_walks here at q r true e = give _
  let_go_walks {h} {place} here at q r false e =
      move (IsUnheld _ place r (found here r) e) (and_then (release_walks {h = Freeing h place} (record { was = here.was; found = here.found }) at (q, refl) r) (λ done. give _))

  -- the handle of a socket of 0.3, or of its listener
  module _ (m : Machine) (place : ℕ) (kind : Kind) (q : m.store.standing ≡ None) where
    left_walks : (was : TcpRecord) → tcp2_at m.store.records place ≡ Some was → (done : Bool × TcpRecord) → Walks law (Gone (Emptying line m place kind Unused) place done) (OverIn m) (Give (left_so m.store place done))
    left_walks was g (true, r) = gone_walks kind m place was g q r
    left_walks was g (false, r) = move (Spends _ refl) (gives _ (Leaves _))

    lets_go_walks : (goes : TcpRecord → Asks (Bool × TcpRecord)) → ((r : TcpRecord) → HasRecord (Emptying line m place kind Unused) place → Walks law (put (Emptying line m place kind Unused) place r) (Gone (Emptying line m place kind Unused) place) (goes r))
        → (o : Option TcpRecord) → tcp2_at m.store.records place ≡ o → Walks law (Emptying line m place kind Unused) (OverIn m) (let_go_at m.store place goes o)
    lets_go_walks goes w None g = move (Spends _ refl) (gives _ (Leaves _))
    lets_go_walks goes w (Some r) g = from (put_same (Emptying line m place kind Unused) place r g) (and_then (w r (there g)) (left_walks r g))

  pub handle_goes_walks : (m : Machine) (place : ℕ) → m.store.standing ≡ None → Walks law (Emptying line m place (Tcp3 place) Unused) (OverIn m) (let_go_at m.store place (drop_socket_asks (own_of line)) (tcp2_at m.store.records place))
  handle_goes_walks m place q =
      lets_go_walks m place (Tcp3 place) q (drop_socket_asks (own_of line))
      (λ r here. let now = without_socket r in on here r now (Changes _ _ _ _ (found here r) (handle_gone r refl)) (let_go_walks here refl (none_stands q) now (is_held now) refl))
      (tcp2_at m.store.records place) refl

  pub listener_goes_walks : (m : Machine) (place : ℕ) → m.store.standing ≡ None → Walks law (Emptying line m place (Listen3 place) Unused) (OverIn m) (let_go_at m.store place (drop_listener_asks (own_of line)) (tcp2_at m.store.records place))
  listener_goes_walks m place q =
      lets_go_walks m place (Listen3 place) q (drop_listener_asks (own_of line))
      (λ r here. and_then (give_up here r (none_stands q) (NoMore refl)) (λ done. let now = with_listening r Not in let_go_walks here refl (none_stands q) now (is_held now) refl))
      (tcp2_at m.store.records place) refl

  -- a drop that waits: one look by the line that dropped it
  module _ (ids : Ids) (place : ℕ) where
    wait_walks : (m : Machine) (r : TcpRecord) (here : HasRecord (At ids.line m place Used) place) (o : Option Streams) → r.streams ≡ o → Walks law (put (At ids.line m place Used) place r) (λ done. put (At ids.line m place Used) place done.1) (wait_writer (own_of ids.line) r o)
    wait_walks m r here None e = give _
    wait_walks m r here (Some s) e = from (streams_are (At ids.line m place Used) place r s e) (and_then (drop_look_walks here refl r s s.writer) (λ done. give _))

    stands_or : (m : Machine) → NoStartStands m.store.standing → (r : TcpRecord) (here : HasRecord (At ids.line m place Used) place) (done : Answer (Unit {0}) × TcpRecord) → Walks law (put (At ids.line m place Used) place done.1) (Put ids.line m place) (Give (drop_waits ids place (wait_put m.store place done)))
    stands_or m q r here (Ready d, now) = give _
    stands_or m q r here (Pending, now) = gives _ (Stands _ ids (StandingCall.DropOutput place) now q refl (found here now) tt)

    pub drop_output_walks : (m : Machine) → NoStartStands m.store.standing → (o : Option TcpRecord) → tcp2_at m.store.records place ≡ o → Walks law (At ids.line m place Used) (Put ids.line m place) (drop_output_at m.store ids place o)
    unfolding bind
    drop_output_walks m q None g = give _
    drop_output_walks m q (Some r) g =
        from (put_same (At ids.line m place Used) place r g) (and_so (wait_put m.store place) (λ done. Give (drop_waits ids place done)) (wait_walks m r (there g) r.streams refl) (stands_or m q r (there g)))
