-- What calls of streams leave pending: nothing, or a call that is on streams which are there.
use Rattle.wasi_causes.proofs.Words.{◌≡◌, ◌∙◌, ℕ, ⊤, arith, List, [], ◌∷◌, Option, Some, None, Result, Ok, Err, false, sym, subst, ap, inl, inr, Answered, CallStop, Entry, Give, IfSome, Left, Machine, OfStreams, OpId, Reply, Standing, Step, Streams, TcpRecord, WasiSocketsCtx, asks_while, bytes_fields, input_at, length, no_fields, number_fields, own_of, record_in, step_asks, streams_in}
use Rattle.std.specs.Prelude.{◌≤◌, drop, suc, take, zero}
use Rattle.wasi_world.specs.declared.ids.Ids.{Ids}
use Rattle.host_store.specs.declared.store.BlockingCall.{BlockingCall}
use Rattle.host_store.specs.declared.store.BlockingCall.TheVariants as blocking
use Rattle.host_store.specs.declared.kind.PlainInput.TheVariants as input
use Rattle.host_store.specs.CallStops.{Closed, Failed, Traps as TrapsBy}
use Rattle.wasi_machine.specs.Machine.{stream_reply_of}
use Rattle.wasi_steps.specs.declared.reply.Field.{Field}
use Rattle.wasi_steps.specs.declared.reply.Field.TheVariants as field
use Rattle.wasi_steps.specs.declared.reply.Reply.TheVariants as reply
use Rattle.wasi_steps.specs.declared.guest_call.GuestCall.TheVariants as guest
use Rattle.wasi_steps.specs.declared.guest_call.StreamCall.TheVariants as stream_call
use Rattle.wasi_steps.specs.declared.step.Step.TheVariants as step
use Rattle.wasi_steps.specs.Reply.{no_values}
use Rattle.wasi_walks.specs.Missing.{MissesEither, MissesInput, MissesInputPipe, MissesOutput}
use Rattle.wasi_host.specs.declared.polling.Look.TheVariants.{Later}
use Rattle.record_common.specs.Names.{first_ids}
use Rattle.wasi_causes.proofs.pollables.Live.{block_live, list_live}
use Rattle.wasi_causes.proofs.streams.Kept.{Keeps, Kept, checks_keep, flushes_keep, reads_keep, writes_keep}
use Rattle.wasi_causes.proofs.streams.Missing.{missed_input, missed_output, output_is_there}
use Rattle.wasi_causes.proofs.tables.Meets.{Meets, met, onto, widen}
use Rattle.wasi_causes.proofs.tables.Steps.{its_own, while_free}
use Rattle.wasi_causes.specs.Blocking.{BeginsToWrite, BlocksAs, Finishes, FlushesOn, IsShort, LooksInto, LooksLast, SplicesOn, WritesOn}
use Rattle.wasi_causes.specs.Blocking as on
use Rattle.wasi_causes.specs.Datagrams.{HasItsHandle, PendingHandleIsLive}
use Rattle.wasi_causes.specs.Outcomes.{Reads}
use Rattle.wasi_causes.specs.Parts as parts
use Rattle.wasi_causes.specs.Parts.{Skips, Splices, counted_reply}
use Rattle.wasi_causes.specs.Plain.{OfInputPipe}

-- == what is pending
-- where nothing is, nothing lacks what it is on
pub free_well : (m : Machine) → m.store.standing ≡ None → PendingHandleIsLive m
free_well m free = subst (λ (o : Option Standing). IfSome o (λ s. HasItsHandle m s.call)) (sym free) tt

-- the input of a splice is there
abbrev pub HasInput : Machine → BlockingCall → Type 0
HasInput m (blocking.Splice to from len) = MissesInput m from → ⊥
HasInput m call = ⊤

-- == what a part keeps
-- what is pending and what is there, and the handles where it gives something
abbrev KeptBy : Machine → Reply → Machine → Type 0
KeptBy m (reply.Ok fields) after = Keeps m after × (after.table ≡ m.table)
KeptBy m r after = Keeps m after

keeps_by : (m : Machine) (r : Reply) (after : Machine) → KeptBy m r after → Keeps m after
keeps_by m (reply.Ok fields) after k = k.0
keeps_by m _ after k = k

kept_reply : {T : Type 0} (m : Machine) (fields : T → List Field) (es : List Entry) (given : Result T CallStop) (after : Machine) → Kept m es (given, after) → KeptBy m (stream_reply_of fields given) after
kept_reply m fields es (Ok value) after k = (k.0, k.1)
kept_reply m fields es (Err Closed) after k = k.0
kept_reply m fields es (Err (Failed c handle)) after k = k
kept_reply m fields es (Err (TrapsBy kind)) after k = k

module _ (contexts : List WasiSocketsCtx) where
  abbrev KeptRow : Machine → List Entry → Reply × Machine → Type 0
  KeptRow m es done = KeptBy m done.0 done.1

  module _ (m : Machine) (free : m.store.standing ≡ None) where
    part_kept : (line : ℕ) (s : Step) → Meets (KeptRow m) [] (step_asks contexts m line s) → (es : List Entry) (r : Reply) (after : Machine) → Answered contexts m line s es r after → KeptBy m r after
    part_kept line s t es r after w = met {a = (r, after)} t (subst (λ (o : Option Standing). Left (asks_while contexts m line s o) es (Give (r, after))) free w)

    module _ (line c : ℕ) (es : List Entry) (r : Reply) (after : Machine) where
      read_kept : (input len : ℕ) → Answered contexts m line (step.Call c (guest.Stream (stream_call.Read input len))) es r after → KeptBy m r after
      read_kept input len = part_kept line (step.Call c (guest.Stream (stream_call.Read input len))) (onto _ (widen (λ es done k. kept_reply m bytes_fields es done.0 done.1 k) (reads_keep m (own_of line) input len))) es r after

      check_kept : (output : ℕ) → Answered contexts m line (step.Call c (guest.Stream (stream_call.CheckWrite output))) es r after → KeptBy m r after
      check_kept output = part_kept line (step.Call c (guest.Stream (stream_call.CheckWrite output))) (onto _ (widen (λ es done k. kept_reply m number_fields es done.0 done.1 k) (checks_keep m (own_of line) output))) es r after

      write_kept : (output : ℕ) (bytes : List ℕ) → Answered contexts m line (step.Call c (guest.Stream (stream_call.Write output bytes))) es r after → KeptBy m r after
      write_kept output bytes = part_kept line (step.Call c (guest.Stream (stream_call.Write output bytes))) (onto _ (widen (λ es done k. kept_reply m no_values es done.0 done.1 k) (writes_keep m (own_of line) output bytes))) es r after

      flush_kept : (output : ℕ) → Answered contexts m line (step.Call c (guest.Stream (stream_call.Flush output))) es r after → KeptBy m r after
      flush_kept output = part_kept line (step.Call c (guest.Stream (stream_call.Flush output))) (onto _ (widen (λ es done k. kept_reply m no_values es done.0 done.1 k) (flushes_keep m (own_of line) output))) es r after

      -- nothing is pending then
      pub read_free : (input len : ℕ) → Answered contexts m line (step.Call c (guest.Stream (stream_call.Read input len))) es r after → after.store.standing ≡ None
      read_free input len w = (keeps_by m r after (read_kept input len w)).standing ∙ free

      pub check_free : (output : ℕ) → Answered contexts m line (step.Call c (guest.Stream (stream_call.CheckWrite output))) es r after → after.store.standing ≡ None
      check_free output w = (keeps_by m r after (check_kept output w)).standing ∙ free

      pub write_free : (output : ℕ) (bytes : List ℕ) → Answered contexts m line (step.Call c (guest.Stream (stream_call.Write output bytes))) es r after → after.store.standing ≡ None
      write_free output bytes w = (keeps_by m r after (write_kept output bytes w)).standing ∙ free

      pub flush_free : (output : ℕ) → Answered contexts m line (step.Call c (guest.Stream (stream_call.Flush output))) es r after → after.store.standing ≡ None
      flush_free output w = (keeps_by m r after (flush_kept output w)).standing ∙ free

    pub skip_free : (line c input len : ℕ) (es : List Entry) (r : Reply) (after : Machine) → Skips contexts m line c input len es r after → after.store.standing ≡ None
    skip_free line c input len es r after k = read_free line c es k.given after input len k.reads

    -- an output is there where something, or nothing yet, may be written
    output_left : (line c output n : ℕ) (es : List Entry) (after : Machine) → Answered contexts m line (step.Call c (guest.Stream (stream_call.CheckWrite output))) es (reply.Ok (number_fields n)) after → MissesOutput after output → ⊥
    output_left line c output n es after w missing =
        let k = check_kept line c es (reply.Ok (number_fields n)) after output w in output_is_there m line output n es (its_own contexts m line (step.Call c (guest.Stream (stream_call.CheckWrite output))) es (reply.Ok (number_fields n)) after w (λ e. cc)).1.1 (missed_output m after k.1 k.0.there output missing)

    -- and so are both ends of a splice, where its input was
    ends_left : (line c to from n : ℕ) (es : List Entry) (after : Machine) → (MissesInput m from → ⊥) → Answered contexts m line (step.Call c (guest.Stream (stream_call.CheckWrite to))) es (reply.Ok (number_fields n)) after → MissesEither after to from → ⊥
    ends_left line c to from n es after there w (inl missing) = output_left line c to n es after w missing
    ends_left line c to from n es after there w (inr missing) = let k = check_kept line c es (reply.Ok (number_fields n)) after to w in there (missed_input m after k.1 k.0.there from missing)

  -- == a splice that doesn't block
  pub splice_free : (m : Machine) (line c to from len : ℕ) (es : List Entry) (r : Reply) (after : Machine) → m.store.standing ≡ None → Splices contexts m line c to from len es r after → after.store.standing ≡ None
  splice_free m line c to from len _ _ _ free (parts.NoStream lacks) = free
  splice_free m line c to from len _ _ _ free (parts.CheckGivesNone es r after w none) = check_free m free line c es r after to w
  splice_free m line c to from len _ _ _ free (parts.NoneToRead es permit after w nil) = check_free m free line c es (reply.Ok (number_fields permit)) after to w
  splice_free m line c to from len _ _ _ free (parts.ReadGivesNone es fs permit count mid r after w some v none) = read_free mid (check_free m free line c es (reply.Ok (number_fields permit)) mid to w) line c fs r after from (suc count) v
  splice_free m line c to from len _ _ _ free (parts.NoneRead es fs permit count mid after w some v) = read_free mid (check_free m free line c es (reply.Ok (number_fields permit)) mid to w) line c fs (reply.Ok (bytes_fields [])) after from (suc count) v
  splice_free m line c to from len _ _ _ free (parts.Writes es fs gs permit count b bytes mid read r after w some v u) =
      write_free read (read_free mid (check_free m free line c es (reply.Ok (number_fields permit)) mid to w) line c fs (reply.Ok (bytes_fields (b ∷ bytes))) read from (suc count) v) line c gs r after to (b ∷ bytes) u

  -- == an input is there
  module _ (m : Machine) (h : ℕ) where
    streams_there : {P : ℕ → TcpRecord → Streams → Type 0} → OfStreams m (input_at m h) P → MissesInput m h → ⊥
    streams_there k missing = let has : streams_in (record_in m (input_at m h)) ≡ Some k.streams = ap streams_in (ap (record_in m) k.names ∙ k.at) ∙ k.has in let none = missing.0 in cc

    pipe_there : {P : ℕ → List ℕ → Type 0} → OfInputPipe m h P → MissesInput m h → ⊥
    pipe_there k missing =
        let none : MissesInputPipe m (Some (input.Pipe k.place)) = subst (MissesInputPipe m) k.names missing.1 in
        let at = k.at in absurd (cc)

    reads_there : (line len : ℕ) (es : List Entry) (fields : List Field) (after : Machine) → Reads m line h len es fields after → MissesInput m h → ⊥
    reads_there line len es (field.Bytes [] ∷ []) after (inl k) = streams_there k.0
    reads_there line len es (field.Bytes [] ∷ []) after (inr k) = pipe_there k.0
    reads_there line len es (field.Bytes (b ∷ bytes) ∷ []) after (inl k) = streams_there k.0
    reads_there line len es (field.Bytes (b ∷ bytes) ∷ []) after (inr k) = pipe_there k
    reads_there line len es _ after k = absurd k

    -- where a read gave bytes or none
    given_there : (line c len n : ℕ) (es : List Entry) (r : Reply) (after : Machine) → Answered contexts m line (step.Call c (guest.Stream (stream_call.Read h len))) es r after → reply.Ok (number_fields n) ≡ counted_reply r → MissesInput m h → ⊥
    given_there line c len n es (reply.Ok fields) after w counts = reads_there line len es fields after (its_own contexts m line (step.Call c (guest.Stream (stream_call.Read h len))) es (reply.Ok fields) after w (λ e. cc)).1.1
    given_there line c len n es (reply.Err word) after w counts = absurd (cc)
    given_there line c len n es reply.Closed after w counts = absurd (cc)
    given_there line c len n es (reply.Failed word handle) after w counts = absurd (cc)
    given_there line c len n es (reply.Trap kind) after w counts = absurd (cc)
    given_there line c len n es (reply.Pending k) after w counts = absurd (cc)
    given_there line c len n es _ after w counts = absurd (cc)

    -- a look that found nothing yet was at a connection
    waits_there : (own : OpId) (es : List Entry) → LooksInto m own h false es → MissesInput m h → ⊥
    waits_there own _ (on.ToldToWait half k) = streams_there k

  dropped : (n : ℕ) (xs : List ℕ) → length (drop n xs) ≤ length xs
  dropped zero xs = omega arith
  dropped (suc n) [] = omega arith
  dropped (suc n) (x ∷ xs) = let k = dropped n xs in omega (arith, k)

  still_short : (n : ℕ) (rest more : List ℕ) → drop n rest ≡ more → length rest ≤ 4096 → length more ≤ 4096
  still_short n rest more e short = let k = dropped n rest in let same : length (drop n rest) ≡ length more = ap (λ (xs : List ℕ). length xs) e in omega (arith, k, same, short)

  -- == calls that block, by how they come out
  module _ (c : ℕ) (ids : Ids) where
    abbrev line : ℕ
    line = ids.line

    read_live : (m : Machine) (input len : ℕ) (es : List Entry) (r : Reply) (after : Machine) → m.store.standing ≡ None → BlocksAs contexts m c ids (blocking.Read input len) es r after → PendingHandleIsLive after
    read_live m input len _ _ _ free (on.NoInput missing) = free_well m free
    read_live m input len _ _ _ free (on.NotReady es look) = (waits_there m input (own_of line) es look, tt)
    read_live m input len _ _ _ free (on.NoneCame es fs look w some) = (reads_there m input line len fs (bytes_fields []) m (its_own contexts m line (step.Call c (guest.Stream (stream_call.Read input len))) fs (reply.Ok (bytes_fields [])) m w (λ e. cc)).1.1, tt)
    read_live m input len _ _ _ free (on.AsRead es fs r after look w other) = free_well after (read_free m free line c fs r after input len w)

    skip_live : (m : Machine) (input len : ℕ) (es : List Entry) (r : Reply) (after : Machine) → m.store.standing ≡ None → BlocksAs contexts m c ids (blocking.Skip input len) es r after → PendingHandleIsLive after
    skip_live m input len _ _ _ free (on.NoInput missing) = free_well m free
    skip_live m input len _ _ _ free (on.NotReady es look) = (waits_there m input (own_of line) es look, tt)
    skip_live m input len _ _ _ free (on.NoneCame es fs look w some) = let k = (while_free contexts m line (step.Call c (guest.Stream (stream_call.Skip input len))) free fs (reply.Ok (number_fields 0)) m w).0 free in (given_there m input line c len 0 fs k.given m k.reads k.counts, tt)
    skip_live m input len _ _ _ free (on.AsRead es fs r after look w other) = free_well after (skip_free m free line c input len fs r after ((while_free contexts m line (step.Call c (guest.Stream (stream_call.Skip input len))) free fs r after w).0 free))

    flush_live : (m : Machine) (output : ℕ) (es : List Entry) (r : Reply) (after : Machine) → m.store.standing ≡ None → FlushesOn contexts m c ids output es r after → PendingHandleIsLive after
    flush_live m output _ _ _ free (on.FlushGivesNone es r after w none) = free_well after (flush_free m free line c es r after output w)
    flush_live m output _ _ _ free (on.LookGivesNone es r after v w none) = free_well after (check_free m free line c es r after output w)
    flush_live m output _ _ _ free (on.StillWrites es after v w) = (output_left m free line c output 0 es after w, tt)
    flush_live m output _ _ _ free (on.IsFlushed es n after v w) = free_well after (check_free m free line c es (reply.Ok (number_fields (suc n))) after output w)

    last_live : (m : Machine) (output : ℕ) (es : List Entry) (r : Reply) (after : Machine) → m.store.standing ≡ None → LooksLast contexts m c ids output es r after → PendingHandleIsLive after
    last_live m output _ _ _ free (on.LastGivesNone es r after w none) = free_well after (check_free m free line c es r after output w)
    last_live m output _ _ _ free (on.LastWaits es after w) = (output_left m free line c output 0 es after w, tt)
    last_live m output _ _ _ free (on.AllTaken es n after w) = free_well after (check_free m free line c es (reply.Ok (number_fields (suc n))) after output w)

    finish_live : (m : Machine) (output : ℕ) (es : List Entry) (r : Reply) (after : Machine) → m.store.standing ≡ None → Finishes contexts m c ids output es r after → PendingHandleIsLive after
    finish_live m output _ _ _ free (on.EndsByFlush es r after w none) = free_well after (flush_free m free line c es r after output w)
    finish_live m output _ _ _ free (on.EndsByLook es r after w looks) = last_live m output es r after free looks

    write_live : (output : ℕ) (m : Machine) (rest : List ℕ) (es : List Entry) (r : Reply) (after : Machine) → m.store.standing ≡ None → length rest ≤ 4096 → WritesOn contexts c ids output m rest es r after → PendingHandleIsLive after
    write_live output _ _ _ _ _ free short (on.NonePermitted m rest es r after w none) = free_well after (check_free m free line c es r after output w)
    write_live output _ _ _ _ _ free short (on.NotYet m rest es after w) = (output_left m free line c output 0 es after w, short)
    write_live output _ _ _ _ _ free short (on.NoneTaken m mid rest n es fs r after w v none) = free_well after (write_free mid (check_free m free line c es (reply.Ok (number_fields (suc n))) mid output w) line c fs r after output (take (suc n) rest) v)
    write_live output _ _ _ _ _ free short (on.AnotherRound m mid next rest n b more es fs gs r after w v left goes) =
        write_live output next (b ∷ more) gs r after (write_free mid (check_free m free line c es (reply.Ok (number_fields (suc n))) mid output w) line c fs (reply.Ok no_fields) next output (take (suc n) rest) v) (still_short (suc n) rest (b ∷ more) left short) goes
    write_live output _ _ _ _ _ free short (on.LastRound m mid next rest n es fs gs r after w v left ends) = finish_live next output gs r after (write_free mid (check_free m free line c es (reply.Ok (number_fields (suc n))) mid output w) line c fs (reply.Ok no_fields) next output (take (suc n) rest) v) ends

    pub begun_live : (m : Machine) (output count : ℕ) (bytes : List ℕ) (es : List Entry) (r : Reply) (after : Machine) → m.store.standing ≡ None → (count ≤ 4096 → length bytes ≤ 4096) → BeginsToWrite contexts m c ids output count bytes es r after → PendingHandleIsLive after
    begun_live m output count bytes _ _ _ free short (on.NoOutput none) = free_well m free
    begun_live m output count bytes _ _ _ free short (on.TooMany is many) = free_well m free
    begun_live m output count bytes _ _ _ free short (on.Begins es r after is few goes) = write_live output m bytes es r after free (short few) goes

    pub splice_live : (m : Machine) (to from len : ℕ) (es : List Entry) (r : Reply) (after : Machine) → m.store.standing ≡ None → (MissesInput m from → ⊥) → SplicesOn contexts m c ids to from len es r after → PendingHandleIsLive after
    splice_live m to from len _ _ _ free there (on.NoStreams lacks) = free_well m free
    splice_live m to from len _ _ _ free there (on.CheckGivesNone es r after w none) = free_well after (check_free m free line c es r after to w)
    splice_live m to from len _ _ _ free there (on.NoRoomYet es after w) = (ends_left m free line c to from 0 es after there w, tt)
    splice_live m to from len _ _ _ free there (on.NoneToRead es n after w nil) = free_well after (check_free m free line c es (reply.Ok (number_fields (suc n))) after to w)
    splice_live m to from len _ _ _ free there (on.InputIsMissing es n mid w some missing) = free_well mid (check_free m free line c es (reply.Ok (number_fields (suc n))) mid to w)
    splice_live m to from len _ _ _ free there (on.InputWaits es ls n mid w some look) = (ends_left m free line c to from (suc n) es mid there w, tt)
    splice_live m to from len _ _ _ free there (on.NoneRead es ls fs n count mid w some look v) = (ends_left m free line c to from (suc n) es mid there w, tt)
    splice_live m to from len _ _ _ free there (on.ReadGivesNone es ls fs n count mid r after w some look v none) = free_well after (read_free mid (check_free m free line c es (reply.Ok (number_fields (suc n))) mid to w) line c fs r after from (suc count) v)
    splice_live m to from len _ _ _ free there (on.WritesRead es ls fs gs n count b bytes mid read r after w some look v u) =
        free_well after (write_free read (read_free mid (check_free m free line c es (reply.Ok (number_fields (suc n))) mid to w) line c fs (reply.Ok (bytes_fields (b ∷ bytes))) read from (suc count) v) line c gs r after to (b ∷ bytes) u)

    pub blocked_live : (m : Machine) (call : BlockingCall) (es : List Entry) (r : Reply) (after : Machine) → m.store.standing ≡ None → IsShort call → HasInput m call → BlocksAs contexts m c ids call es r after → PendingHandleIsLive after
    blocked_live m (blocking.Read input len) es r after free short there goes = read_live m input len es r after free goes
    blocked_live m (blocking.Skip input len) es r after free short there goes = skip_live m input len es r after free goes
    blocked_live m (blocking.Write output rest) es r after free short there goes = write_live output m rest es r after free short goes
    blocked_live m (blocking.Finish output) es r after free short there goes = last_live m output es r after free goes
    blocked_live m (blocking.Flush output) es r after free short there goes = flush_live m output es r after free goes
    blocked_live m (blocking.Splice to from len) es r after free short there goes = splice_live m to from len es r after free there goes
    blocked_live m (blocking.Block p) es r after free short there goes = block_live contexts c ids m p Later es r after free goes
    blocked_live m (blocking.Poll ps) es r after free short there goes = list_live m (first_ids ids.line) ps Later es r after free goes
