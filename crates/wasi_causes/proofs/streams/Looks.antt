-- A look at an input, before a call that blocks reads it.
use Rattle.wasi_causes.proofs.Words.{◌≡◌, ◌∙◌, ℕ, Bool, true, List, [], ◌∷◌, Option, Some, None, Result, Ok, Err, refl, sym, subst, ap, CallStop, Entry, Machine, NoSuchHandle, OpId, ReadState, Records, Streams, TcpRecord, TcpReceiveStream, Told, bind, entry, input_at, marks_in, reader_ready_asks, record_in, streams_in, told_ready, with_reader}
use Rattle.wasi_tcp.specs.declared.reader.ReadState.TheVariants as reading
use Rattle.host_streams.specs.Blocking.{look_asks, look_at, look_by, look_on, looked}
use Rattle.host_store.specs.declared.kind.PlainInput.{PlainInput}
use Rattle.host_store.specs.CallStops.{Traps}
use Rattle.tcp_records.specs.Looks.{is_done, ready_reader}
use Rattle.host_store.specs.Readiness.{ready_put}
use Rattle.wasi_records.specs.Records.{tcp2_at}
use Rattle.host_streams.specs.StreamCalls.{plain_input_at}
use Rattle.wasi_walks.specs.Missing.{MissesInput}
use Rattle.wasi_world.specs.Fits.{IsReady as FitsReady}
use Rattle.wasi_world.specs.declared.call.Call.TheVariants as call
use Rattle.wasi_world.specs.declared.call.Told.TheVariants as told
use Rattle.wasi_causes.proofs.streams.Routes.{HasStreams, of_streams, streams_same}
use Rattle.wasi_causes.proofs.tables.Meets.{Meets, Rows, asks, ends, onto}
use Rattle.wasi_causes.proofs.tables.Routes.{put_store_same}
use Rattle.wasi_causes.specs.Blocking.{LooksInto, OfClosed, OfNoConnection, ToldReady, ToldToWait}

module _ (m : Machine) (own : OpId) (h : ℕ) where
  -- what it found, and that the machine is as it was
  abbrev pub LookFacts : Rows (Result Bool CallStop × Machine)
  LookFacts es (Ok b, now) = LooksInto m own h b es × (now ≡ m) × (marks_in es ≡ 0)
  LookFacts es (Err (Traps NoSuchHandle), now) = MissesInput m h × (es ≡ []) × (now ≡ m)
  LookFacts es (Err _, now) = ⊥

  module _ (connected : plain_input_at m h ≡ None) where
    missing : streams_in (record_in m (input_at m h)) ≡ None → LookFacts [] (Err (Traps NoSuchHandle), m)
    missing none = ((none, rw connected tt), refl, refl)

    module _ (place : ℕ) (r : TcpRecord) (s : Streams) (n : HasStreams m (input_at m h) place r s) where
      left : ReadState → Machine
      left reader = record m { store = (ready_put m.store place (Ok true, with_reader r s reader)).1 }

      left_same : (reader : ReadState) → s.reader ≡ reader → left reader ≡ m
      unfolding left
      left_same reader e = ap left (sym e) ∙ streams_same n

      told_look : (half : TcpReceiveStream) → s.reader ≡ reading.Open half → (t : Told) → FitsReady t → LookFacts (entry own (call.ReadReady half.side) t ∷ []) (Ok (is_done (told_ready t)), left (reading.Open half))
      told_look half e told.Done fits = (ToldReady half (of_streams n e), left_same (reading.Open half) e, refl)
      told_look half e told.Pending fits = (ToldToWait half (of_streams n e), left_same (reading.Open half) e, refl)
      told_look half e _ fits = absurd fits

      by_reader : (reader : ReadState) → s.reader ≡ reader → Meets (λ es done. LookFacts es (Ok (is_done done.0), left done.1)) [] (reader_ready_asks own reader)
      unfolding bind
      by_reader (reading.Open half) e = asks (λ t fits. ends (told_look half e t fits))
      by_reader reading.Closed e = ends (OfClosed (of_streams n e), left_same reading.Closed e, refl)

    by_streams : (place : ℕ) (r : TcpRecord) → input_at m h ≡ Some place → tcp2_at m.store.records place ≡ Some r → (o : Option Streams) → r.streams ≡ o → Meets (λ es done. LookFacts es (looked m (ready_put m.store place done))) [] (ready_reader own r o)
    unfolding left
    by_streams place r names at None has = ends (subst (λ (store : Records). LookFacts [] (Err (Traps NoSuchHandle), record m { store = store })) (sym (put_store_same m.store place r at)) (missing (ap streams_in (ap (record_in m) names ∙ at) ∙ has)))
    by_streams place r names at (Some s) has = onto _ (by_reader place r s (record { names = names; at = at; has = has }) s.reader refl)

    by_record : (place : ℕ) → input_at m h ≡ Some place → (o : Option TcpRecord) → tcp2_at m.store.records place ≡ o → Meets (λ es done. LookFacts es (looked m done)) [] (look_at m.store own place o)
    by_record place names None at = ends (missing (ap streams_in (ap (record_in m) names ∙ at)))
    by_record place names (Some r) at = onto _ (by_streams place r names at r.streams refl)

    by_number : (o : Option ℕ) → input_at m h ≡ o → Meets LookFacts [] (look_on m own o)
    by_number None names = ends (missing (ap streams_in (ap (record_in m) names)))
    by_number (Some place) names = onto _ (by_record place names (tcp2_at m.store.records place) refl)

  by_input : (o : Option PlainInput) → plain_input_at m h ≡ o → Meets LookFacts [] (look_by m own h o)
  by_input (Some plain) is = ends (OfNoConnection (rw is refl), refl, refl)
  by_input None is = by_number is (input_at m h) refl

  pub look_facts : Meets LookFacts [] (look_asks m own h)
  look_facts = by_input (plain_input_at m h) refl

  -- an input that was looked into is there, or is of no connection
  pub looked_none : {es : List Entry} → LooksInto m own h true es → MissesInput m h → es ≡ []
  looked_none (OfNoConnection is) missing = refl
  looked_none (OfClosed on) missing = refl
  looked_none (ToldReady half on) missing = let has : streams_in (record_in m (input_at m h)) ≡ Some on.streams = ap streams_in (ap (record_in m) on.names ∙ on.at) ∙ on.has in let none = missing.0 in absurd (cc)
