-- One direction's part of a turn keeps what is copied, whatever its steps are answered.
use Rattle.std.proofs.Common.{◌≡◌, ◌∙◌, ℕ, zero, suc, ◌+◌, ◌-◌, ◌^◌, ◌<◌, ◌==◌, min, refl, sym, ap, subst, List, [], ◌∷◌, ◌++◌, length, append-nil, append_assoc, length-append, Bool, true, false, if◌then◌else◌, Option, Some, None, Ok, Err, Result, arith}
use Rattle.std.proofs.lemmas.Bool.{eqb-false, eqb-true}
use Rattle.std.specs.Prelude.{⊤}
use Rattle.wasi_addr.specs.declared.address.ShutdownType.TheVariants.{Send}
use Rattle.wasi_world.specs.declared.ids.OpId.{OpId}
use Rattle.wasi_world.specs.declared.call.Entry.{Entry}
use Rattle.wasi_world.specs.declared.outcome.WasiSocketsCtx.{WasiSocketsCtx}
use Rattle.wasi_world.specs.Asks.{Give}
use Rattle.wasi_tcp.specs.Taken.{IsFrontOf, taken_in}
use Rattle.host_store.specs.declared.machine.Machine.{Machine}
use Rattle.host_store.specs.declared.store.Standing.{Standing}
use Rattle.host_store.specs.CallStops.{CallStop, Closed, Failed, Traps}
use Rattle.host_streams.specs.StreamCalls.{check_asks}
use Rattle.record_common.specs.Names.{own_of}
use Rattle.wasi_machine.specs.Machine.{asks_while, is_held_up, stream_reply_of}
use Rattle.wasi_steps.specs.declared.guest_call.GuestCall.TheVariants as guest
use Rattle.wasi_steps.specs.declared.guest_call.TcpCall.TheVariants as tcp_call
use Rattle.wasi_steps.specs.declared.guest_call.NameCall.TheVariants as name_call
use Rattle.wasi_steps.specs.declared.guest_call.StreamCall.TheVariants as stream_call
use Rattle.wasi_steps.specs.declared.guest_call.PollableCall.TheVariants as pollable_call
use Rattle.wasi_steps.specs.declared.reply.Field.{Field}
use Rattle.wasi_steps.specs.declared.reply.Field.TheVariants as field
use Rattle.wasi_steps.specs.declared.reply.Reply.{Reply}
use Rattle.wasi_steps.specs.declared.reply.Reply.TheVariants as replied
use Rattle.wasi_steps.specs.declared.step.Step.{Step}
use Rattle.wasi_steps.specs.declared.step.Step.TheVariants.{Call, Turn}
use Rattle.wasi_steps.specs.Reply.{number_fields}
use Rattle.wasi_walks.proofs.Gives.{Gives, given, gives_any, gives_then}
use Rattle.wasi_walks.proofs.licence.Meanings.{one_side}
use Rattle.wasi_walks.specs.Answered.{Answered}
use Rattle.wasi_walks.specs.Licence.{IsSide, MarksNoSocket}
use Rattle.wasi_laws.specs.Permitted.{permitted_by, permitted_in, permitted_when}
use Rattle.wasi_laws.proofs.permits.Replied.{its_let, none_let, write_front}
use Rattle.wasi_laws.proofs.permits.Marked.{writes_to}
use Rattle.wasi_laws.proofs.permits.Runs.{runs_take_all}
use Rattle.wasi_causes.specs.ToldBytes.{ReadsNothing, handed_out, told_in}
use Rattle.wasi_causes.proofs.reads.Reads.{its_told, others_told}
use Rattle.wasi_causes.proofs.reads.Steps.{step_told}
use Rattle.wasi_relay.specs.declared.pair.DirEnd.{DirEnd}
use Rattle.wasi_relay.specs.declared.pair.DirEnd.TheVariants.{Open, Clean, Broken}
use Rattle.wasi_relay.specs.declared.pair.Flow.{Flow}
use Rattle.wasi_relay.specs.declared.pair.Peer.{Peer}
use Rattle.wasi_relay.specs.Guest.{Guest, Do, call, give, ◌>>=◌}
use Rattle.wasi_relay.specs.Pair.{ended_as, is_open, written_more}
use Rattle.wasi_relay.specs.Replies.{bytes_at, number_at}
use Rattle.wasi_relay.specs.Copying.{after_check, after_read, after_write, broken, copied}
use Rattle.wasi_relay.proofs.Past.{Copies, Goes, Past, Replies, push}
use Rattle.wasi_relay.proofs.Grown.{Any, FlowAt, FlowIs, Fresh, Grows, IsTcp, capped, flow_grows, fresh_grows, licensed, side_grows, tcp_grows, tcp_marked, told_append}

-- == steps that neither read nor write
abbrev pub IsQuiet : Step → Type 0
IsQuiet (Call c (guest.Names name_call.Network)) = ⊤
IsQuiet (Call c (guest.Tcp (tcp_call.Create family))) = ⊤
IsQuiet (Call c (guest.Tcp (tcp_call.StartBind socket network addr))) = ⊤
IsQuiet (Call c (guest.Tcp (tcp_call.FinishBind socket))) = ⊤
IsQuiet (Call c (guest.Tcp (tcp_call.StartConnect socket network addr))) = ⊤
IsQuiet (Call c (guest.Tcp (tcp_call.FinishConnect socket))) = ⊤
IsQuiet (Call c (guest.Tcp (tcp_call.StartListen socket))) = ⊤
IsQuiet (Call c (guest.Tcp (tcp_call.FinishListen socket))) = ⊤
IsQuiet (Call c (guest.Tcp (tcp_call.Accept socket))) = ⊤
IsQuiet (Call c (guest.Tcp (tcp_call.Shutdown socket how))) = ⊤
IsQuiet (Call c (guest.Stream (stream_call.CheckWrite output))) = ⊤
IsQuiet (Call c (guest.Pollable (pollable_call.Drop handle))) = ⊤
IsQuiet Turn = ⊤
IsQuiet _ = ⊥

quiet_reads : (s : Step) → IsQuiet s → ReadsNothing s
quiet_reads (Call c (guest.Names name_call.Network)) q = tt
quiet_reads (Call c (guest.Tcp (tcp_call.Create family))) q = tt
quiet_reads (Call c (guest.Tcp (tcp_call.StartBind socket network addr))) q = tt
quiet_reads (Call c (guest.Tcp (tcp_call.FinishBind socket))) q = tt
quiet_reads (Call c (guest.Tcp (tcp_call.StartConnect socket network addr))) q = tt
quiet_reads (Call c (guest.Tcp (tcp_call.FinishConnect socket))) q = tt
quiet_reads (Call c (guest.Tcp (tcp_call.StartListen socket))) q = tt
quiet_reads (Call c (guest.Tcp (tcp_call.FinishListen socket))) q = tt
quiet_reads (Call c (guest.Tcp (tcp_call.Accept socket))) q = tt
quiet_reads (Call c (guest.Tcp (tcp_call.Shutdown socket how))) q = tt
quiet_reads (Call c (guest.Stream (stream_call.CheckWrite output))) q = tt
quiet_reads (Call c (guest.Pollable (pollable_call.Drop handle))) q = tt
quiet_reads Turn q = tt
quiet_reads _ q = absurd q

quiet_when : (m : Machine) (side : OpId) (line : ℕ) (s : Step) (entries : List Entry) → IsQuiet s → permitted_when m side line s entries ≡ []
quiet_when m side line (Call c (guest.Names name_call.Network)) entries q = refl
quiet_when m side line (Call c (guest.Tcp (tcp_call.Create family))) entries q = refl
quiet_when m side line (Call c (guest.Tcp (tcp_call.StartBind socket network addr))) entries q = refl
quiet_when m side line (Call c (guest.Tcp (tcp_call.FinishBind socket))) entries q = refl
quiet_when m side line (Call c (guest.Tcp (tcp_call.StartConnect socket network addr))) entries q = refl
quiet_when m side line (Call c (guest.Tcp (tcp_call.FinishConnect socket))) entries q = refl
quiet_when m side line (Call c (guest.Tcp (tcp_call.StartListen socket))) entries q = refl
quiet_when m side line (Call c (guest.Tcp (tcp_call.FinishListen socket))) entries q = refl
quiet_when m side line (Call c (guest.Tcp (tcp_call.Accept socket))) entries q = refl
quiet_when m side line (Call c (guest.Tcp (tcp_call.Shutdown socket how))) entries q = refl
quiet_when m side line (Call c (guest.Stream (stream_call.CheckWrite output))) entries q = refl
quiet_when m side line (Call c (guest.Pollable (pollable_call.Drop handle))) entries q = refl
quiet_when m side line Turn entries q = refl
quiet_when m side line _ entries q = absurd q

-- whether a call is pending or not
pub let_none : (m : Machine) (side : OpId) (line : ℕ) (s : Step) (entries : List Entry) (o : Option Standing) → permitted_when m side line s entries ≡ [] → permitted_in m side line o s entries ≡ []
let_none m side line s entries None e = e
let_none m side line s entries (Some c) e = by_test (is_held_up m.store s)
  where
    by_test : (b : Bool) → (let more : List ℕ = if b then [] else permitted_when m side line s entries in more) ≡ []
    by_test true = refl
    by_test false = e

-- a check-write that is done gives a number
abbrev IsNumber : Reply → Type 0
IsNumber (replied.Ok fields) = (n : ℕ) × (fields ≡ number_fields n)
IsNumber _ = ⊤

number_given : (r : Result ℕ CallStop) → IsNumber (stream_reply_of number_fields r)
number_given (Ok n) = (n, refl)
number_given (Err (Failed c e)) = tt
number_given (Err Closed) = tt
number_given (Err (Traps kind)) = tt

module _ (contexts : List WasiSocketsCtx) where
  check_while : (m : Machine) (line ctx output : ℕ) (o : Option Standing) → Gives (λ es done. IsNumber done.0) [] (asks_while contexts m line (Call ctx (guest.Stream (stream_call.CheckWrite output))) o)
  check_while m line ctx output None =
      gives_then (λ es done. ⊤) (λ es done. IsNumber done.0) [] (check_asks m (own_of line) output) (λ done. Give (stream_reply_of number_fields done.0, done.1)) (gives_any (λ es done. ⊤) (λ es done. tt) [] (check_asks m (own_of line) output)) (λ es done t. number_given done.0)
  check_while m line ctx output (Some c) = tt

  check_number : (m : Machine) (line ctx output : ℕ) (entries : List Entry) (fields : List Field) (after : Machine) → Answered contexts m line (Call ctx (guest.Stream (stream_call.CheckWrite output))) entries (replied.Ok fields) after → (n : ℕ) × (fields ≡ number_fields n)
  check_number m line ctx output entries fields after a = given (λ es done. IsNumber done.0) (asks_while contexts m line (Call ctx (guest.Stream (stream_call.CheckWrite output))) m.store.standing) entries (replied.Ok fields, after) (check_while m line ctx output m.store.standing) a

  -- == one step
  module _ (past : Past contexts) (g : Goes past.replies) (s : Step) (entries : List Entry) (r : Reply) (m : Machine) (a : Replies contexts past s entries r m) where
    told_more : (side : OpId) → told_in side entries ≡ [] → told_in side (past.log ++ entries) ≡ told_in side past.log
    told_more side e = told_append side past.log entries ∙ (ap (λ (x : List ℕ). told_in side past.log ++ x) e ∙ append-nil (told_in side past.log))

    may_more : (side : OpId) → permitted_by past.state side (1 + length past.steps) s entries ≡ [] → past.may side ++ permitted_by past.state side (1 + length past.steps) s entries ≡ past.may side
    may_more side e = ap (λ (x : List ℕ). past.may side ++ x) e ∙ append-nil (past.may side)

    pub quiet_grows : IsQuiet s → Grows contexts past (push contexts past g s entries r m a) (Any contexts) (Any contexts)
    quiet_grows q = record {
      more = entries;
      log = refl;
      told = λ side t. told_more side (step_told contexts past.state (1 + length past.steps) s entries r m side (quiet_reads s q) a);
      may = λ side t. may_more side (let_none past.state side (1 + length past.steps) s entries past.state.store.standing (quiet_when past.state side (1 + length past.steps) s entries q));
    }

  pub quietly : (s : Step) → IsQuiet s → (next : Reply → Guest) (past : Past contexts) → ((r : Reply) (now : Past contexts) → Grows contexts past now (Any contexts) (Any contexts) → Copies contexts (next r) now) → Copies contexts (Do s next) past
  quietly s q next past k = λ g entries r m a. k r (push contexts past g s entries r m a) (quiet_grows past g s entries r m a q)

  -- == a direction, from one network socket to another
  -- R is what else is known, which they don't touch.
  module _ (a b : OpId) (apart : a ≡ b → ⊥) (R : Past contexts → Type 0) (keep : (past now : Past contexts) → Grows contexts past now (λ s. s ≡ a → ⊥) (λ s. s ≡ b → ⊥) → R past → R now) (from to : Peer) where
    -- All but how much was copied.
    pub record Base (past : Past contexts) : Type 0 where
      pub fresh : Fresh contexts past
      pub frame : R past
      pub from_tcp : (handle : ℕ) × IsTcp past.log handle a
      pub to_tcp : (handle : ℕ) × IsTcp past.log handle b
      pub input : IsSide past.log from.input a
      pub output : IsSide past.log to.output b

    pub record Dir (past : Past contexts) (flow : Flow) : Type 0 where
      pub base : Base past
      pub flow_is : FlowIs contexts past a b flow

    module _ {past now : Past contexts} {Told Let : OpId → Type 0} (g : Grows contexts past now Told Let) (t : (s : OpId) → (s ≡ a → ⊥) → Told s) (l : (s : OpId) → (s ≡ b → ⊥) → Let s) (h : Base past) where
      still_frame : R now
      still_frame = keep past now (record { more = g.more; log = g.log; told = λ s n. g.told s (t s n); may = λ s n. g.may s (l s n) }) h.frame

      unmarked : (handle : ℕ) (x s : OpId) → IsTcp past.log handle x → MarksNoSocket now.log s → s ≡ x → ⊥
      unmarked handle x s tcp n e = tcp_marked now.log handle x (tcp_grows contexts g handle x tcp) (subst (MarksNoSocket now.log) e n)

      base_grows : Base now
      base_grows = record {
        fresh = fresh_grows contexts g (λ s n. (t s (unmarked h.from_tcp.0 a s h.from_tcp.1 n), l s (unmarked h.to_tcp.0 b s h.to_tcp.1 n))) h.fresh;
        frame = still_frame;
        from_tcp = (h.from_tcp.0, tcp_grows contexts g h.from_tcp.0 a h.from_tcp.1);
        to_tcp = (h.to_tcp.0, tcp_grows contexts g h.to_tcp.0 b h.to_tcp.1);
        input = side_grows contexts g from.input a h.input;
        output = side_grows contexts g to.output b h.output;
      }

    base_stays : {past now : Past contexts} → Grows contexts past now (Any contexts) (Any contexts) → Base past → Base now
    base_stays g h = base_grows g (λ s n. tt) (λ s n. tt) h

    -- what follows the part
    abbrev pub Ends : (Flow → Guest) → Type 0
    Ends next = (flow : Flow) (now : Past contexts) → Dir now flow → Copies contexts (next flow) now

    -- == it breaks
    ends_broken : (flow : Flow) (r : Reply) (next : Flow → Guest) (past : Past contexts) → Base past → IsFrontOf (past.may b) (told_in a past.log) → Ends next → Copies contexts (broken flow r next) past
    ends_broken flow (replied.Failed code error) next past h f k =
        quietly (Call 0 (guest.Pollable (pollable_call.Drop error))) tt (λ r. next (ended_as Broken flow)) past (λ r now g. k (ended_as Broken flow) now (record { base = base_stays g h; flow_is = flow_grows contexts g a b tt tt Broken flow.bytes f }))
    ends_broken flow _ next past h f k = k (ended_as Broken flow) past (record { base = h; flow_is = f })

    same_front : (x y : List ℕ) → x ≡ y → IsFrontOf x y
    same_front x y e = ([], append-nil x ∙ e)

    -- == a write
    cap_more : (l n most : ℕ) → min (min l most + n) most ≡ min (l + n) most
    cap_more l n most = omega arith

    module _ (flow : Flow) (bytes : List ℕ) (next : Flow → Guest) (past : Past contexts) (h : Base past) (told : told_in a past.log ≡ past.may b ++ bytes) (open_ : flow.end ≡ Open) (count : flow.bytes ≡ capped (length (past.may b))) (k : Ends next) where
      abbrev written : Step
      written = Call 0 (guest.Stream (stream_call.Write to.output bytes))

      module _ (g : Goes past.replies) (entries : List Entry) (m : Machine) (r : Reply) (x : Replies contexts past written entries r m) where
        after_it : Past contexts
        after_it = push contexts past g written entries r m x

        other : (s : OpId) → (s ≡ b → ⊥) → IsSide past.log to.output s → ⊥
        other s n i = n (sym (one_side contexts past.steps past.log (licensed contexts past) to.output b s h.output i))

        write_grows : Grows contexts past (push contexts past g written entries r m x) (Any contexts) (λ s. s ≡ b → ⊥)
        write_grows = record {
          more = entries;
          log = refl;
          told = λ s t. told_more past g written entries r m x s (step_told contexts past.state (1 + length past.steps) written entries r m s tt x);
          may = λ s n. may_more past g written entries r m x s (none_let contexts past.steps past.log past.replies past.state past.ran (1 + length past.steps) 0 to.output bytes s entries (other s n));
        }

        write_base : Base (push contexts past g written entries r m x)
        write_base = base_grows write_grows (λ s n. tt) (λ s n. n) h

        told_now : told_in a (past.log ++ entries) ≡ past.may b ++ bytes
        told_now = write_grows.told a tt ∙ told

        part_let : IsFrontOf (past.may b ++ permitted_by past.state b (1 + length past.steps) written entries) (told_in a (past.log ++ entries))
        part_let =
            let f = write_front past.state b (1 + length past.steps) 0 to.output bytes entries in
            (f.0, append_assoc (past.may b) (permitted_by past.state b (1 + length past.steps) written entries) f.0 ∙ (ap (λ (y : List ℕ). past.may b ++ y) f.1 ∙ sym told_now))

      all_let : (g : Goes past.replies) (entries : List Entry) (m : Machine) (fields : List Field) (x : Replies contexts past written entries (replied.Ok fields) m) → Dir (push contexts past g written entries (replied.Ok fields) m x) (written_more (length bytes) flow)
      all_let g entries m fields x =
          let its : permitted_by past.state b (1 + length past.steps) written entries ≡ bytes = its_let contexts past.steps past.log past.replies past.state past.ran (1 + length past.steps) 0 to.output bytes b h.output entries fields m x in
          let may : past.may b ++ permitted_by past.state b (1 + length past.steps) written entries ≡ told_in a (past.log ++ entries) = ap (λ (y : List ℕ). past.may b ++ y) its ∙ sym (told_now g entries m (replied.Ok fields) x) in
          let size : length (told_in a (past.log ++ entries)) ≡ length (past.may b) + length bytes = ap (λ (y : List ℕ). length y) (told_now g entries m (replied.Ok fields) x) ∙ length-append (past.may b) bytes in
          let counted : min (flow.bytes + length bytes) (2 ^ 64 - 1) ≡ capped (length (told_in a (past.log ++ entries))) =
          ap (λ (n : ℕ). min (n + length bytes) (2 ^ 64 - 1)) count ∙ (cap_more (length (past.may b)) (length bytes) (2 ^ 64 - 1) ∙ ap capped (sym size)) in
          record {
            base = write_base g entries m (replied.Ok fields) x;
            flow_is = subst (λ (e : DirEnd). FlowAt e (told_in a (past.log ++ entries)) (past.may b ++ permitted_by past.state b (1 + length past.steps) written entries) (taken_in b (past.log ++ entries)) (min (flow.bytes + length bytes) (2 ^ 64 - 1))) (sym open_) (may, counted);
          }

      by_written : (g : Goes past.replies) (entries : List Entry) (r : Reply) (m : Machine) (x : Replies contexts past written entries r m) → Copies contexts (after_write flow (length bytes) r next) (push contexts past g written entries r m x)
      by_written g entries (replied.Ok fields) m x = k (written_more (length bytes) flow) _ (all_let g entries m fields x)
      by_written g entries r m x = ends_broken flow r next _ (write_base g entries m r x) (part_let g entries m r x) k

      pub writes : Copies contexts ((call (guest.Stream (stream_call.Write to.output bytes)) >>= after_write flow (length bytes)) next) past
      writes = by_written

    -- == a read, once all was taken
    handed_fields : (fields : List Field) → handed_out (replied.Ok fields) ≡ bytes_at fields 0
    handed_fields [] = refl
    handed_fields (field.Bytes bytes ∷ fields) = refl
    handed_fields (_ ∷ fields) = refl

    module _ (flow : Flow) (len : ℕ) (next : Flow → Guest) (past : Past contexts) (h : Base past) (open_ : flow.end ≡ Open) (whole : FlowAt Clean (told_in a past.log) (past.may b) (taken_in b past.log) flow.bytes) (k : Ends next) where
      abbrev asked : Step
      asked = Call 0 (guest.Stream (stream_call.Read from.input len))

      module _ (g : Goes past.replies) (entries : List Entry) (m : Machine) (r : Reply) (x : Replies contexts past asked entries r m) where
        other_input : (s : OpId) → (s ≡ a → ⊥) → IsSide past.log from.input s → ⊥
        other_input s n i = n (sym (one_side contexts past.steps past.log (licensed contexts past) from.input a s h.input i))

        none_let_by : (s : OpId) → permitted_by past.state s (1 + length past.steps) asked entries ≡ []
        none_let_by s = let_none past.state s (1 + length past.steps) asked entries past.state.store.standing refl

        read_grows : Grows contexts past (push contexts past g asked entries r m x) (λ s. s ≡ a → ⊥) (Any contexts)
        read_grows = record {
          more = entries;
          log = refl;
          told = λ s n. told_more past g asked entries r m x s (others_told contexts past.steps past.log past.replies past.state past.ran (1 + length past.steps) 0 from.input len s entries r m x (other_input s n));
          may = λ s t. may_more past g asked entries r m x s (none_let_by s);
        }

        read_base : Base (push contexts past g asked entries r m x)
        read_base = base_grows read_grows (λ s n. n) (λ s n. tt) h

        told_then : told_in a (past.log ++ entries) ≡ told_in a past.log ++ handed_out r
        told_then = told_append a past.log entries ∙ ap (λ (y : List ℕ). told_in a past.log ++ y) (its_told contexts past.steps past.log past.replies past.state past.ran (1 + length past.steps) 0 from.input len a entries r m x h.input)

        may_then : past.may b ++ permitted_by past.state b (1 + length past.steps) asked entries ≡ told_in a past.log
        may_then = read_grows.may b tt ∙ whole.0

        -- what is handed out is still to be written
        left_to_write : (bytes : List ℕ) → handed_out r ≡ bytes → told_in a (past.log ++ entries) ≡ (past.may b ++ permitted_by past.state b (1 + length past.steps) asked entries) ++ bytes
        left_to_write bytes e = told_then ∙ (ap (λ (y : List ℕ). told_in a past.log ++ y) e ∙ ap (λ (y : List ℕ). y ++ bytes) (sym may_then))

        count_then : flow.bytes ≡ capped (length (past.may b ++ permitted_by past.state b (1 + length past.steps) asked entries))
        count_then = whole.1 ∙ ap (λ (y : List ℕ). capped (length y)) (sym may_then)

        -- where nothing was handed out
        module _ (none : handed_out r ≡ []) where
          told_same : told_in a (past.log ++ entries) ≡ told_in a past.log
          told_same = told_then ∙ (ap (λ (y : List ℕ). told_in a past.log ++ y) none ∙ append-nil (told_in a past.log))

          whole_then : FlowAt Clean (told_in a (past.log ++ entries)) (past.may b ++ permitted_by past.state b (1 + length past.steps) asked entries) (taken_in b (past.log ++ entries)) flow.bytes
          whole_then =
              let here : Grows contexts past (push contexts past g asked entries r m x) (λ s. told_in s (past.log ++ entries) ≡ told_in s past.log) (Any contexts) = record { more = entries; log = refl; told = λ s e. e; may = read_grows.may } in
              flow_grows contexts here a b told_same tt Clean flow.bytes whole

          same_dir : Dir (push contexts past g asked entries r m x) flow
          same_dir = record { base = read_base; flow_is = subst (λ (e : DirEnd). FlowAt e (told_in a (past.log ++ entries)) (past.may b ++ permitted_by past.state b (1 + length past.steps) asked entries) (taken_in b (past.log ++ entries)) flow.bytes) (sym open_) (whole_then.0, whole_then.1) }

          ends_clean : Copies contexts ((call (guest.Tcp (tcp_call.Shutdown to.socket Send)) >>= λ done. give (ended_as Clean flow)) next) (push contexts past g asked entries r m x)
          ends_clean = quietly (Call 0 (guest.Tcp (tcp_call.Shutdown to.socket Send))) tt (λ done. next (ended_as Clean flow)) (push contexts past g asked entries r m x) (λ done now q. k (ended_as Clean flow) now (record { base = base_stays q read_base; flow_is = flow_grows contexts q a b tt tt Clean flow.bytes whole_then }))

          breaks : Copies contexts (broken flow r next) (push contexts past g asked entries r m x)
          breaks = ends_broken flow r next (push contexts past g asked entries r m x) read_base (same_front _ _ whole_then.0) k

      none_bytes : (bytes : List ℕ) → (length bytes == 0) ≡ true → bytes ≡ []
      none_bytes [] e = refl
      none_bytes (y ∷ bytes) e = absurd (let z : length (y ∷ bytes) ≡ 0 = eqb-true (length (y ∷ bytes)) 0 e in omega (arith, z))

      by_bytes : (g : Goes past.replies) (entries : List Entry) (m : Machine) (fields : List Field) (x : Replies contexts past asked entries (replied.Ok fields) m) → (b0 : Bool) → (length (bytes_at fields 0) == 0) ≡ b0
          → Copies contexts ((if b0 then give flow else (call (guest.Stream (stream_call.Write to.output (bytes_at fields 0))) >>= after_write flow (length (bytes_at fields 0)))) next) (push contexts past g asked entries (replied.Ok fields) m x)
      by_bytes g entries m fields x true e = k flow _ (same_dir g entries m (replied.Ok fields) x (handed_fields fields ∙ none_bytes (bytes_at fields 0) e))
      by_bytes g entries m fields x false e = writes flow (bytes_at fields 0) next _ (read_base g entries m (replied.Ok fields) x) (left_to_write g entries m (replied.Ok fields) x (bytes_at fields 0) (handed_fields fields)) open_ (count_then g entries m (replied.Ok fields) x) k

      by_read : (g : Goes past.replies) (entries : List Entry) (r : Reply) (m : Machine) (x : Replies contexts past asked entries r m) → Copies contexts (after_read to flow r next) (push contexts past g asked entries r m x)
      by_read g entries (replied.Ok fields) m x = by_bytes g entries m fields x (length (bytes_at fields 0) == 0) refl
      by_read g entries replied.Closed m x = ends_clean g entries m replied.Closed x refl
      by_read g entries r m x = breaks g entries m r x refl

      pub reads : Copies contexts ((call (guest.Stream (stream_call.Read from.input len)) >>= after_read to flow) next) past
      reads = by_read

    -- == a permit
    module _ (flow : Flow) (next : Flow → Guest) (past : Past contexts) (h : Dir past flow) (k : Ends next) where
      abbrev checked : Step
      checked = Call 0 (guest.Stream (stream_call.CheckWrite to.output))

      module _ (open_ : flow.end ≡ Open) (g : Goes past.replies) (entries : List Entry) (m : Machine) where
        open_flow : FlowAt Open (told_in a past.log) (past.may b) (taken_in b past.log) flow.bytes
        open_flow = subst (λ (e : DirEnd). FlowAt e (told_in a past.log) (past.may b) (taken_in b past.log) flow.bytes) open_ h.flow_is

        module _ (r : Reply) (x : Replies contexts past checked entries r m) where
          check_grows : Grows contexts past (push contexts past g checked entries r m x) (Any contexts) (Any contexts)
          check_grows = quiet_grows past g checked entries r m x tt

          check_base : Base (push contexts past g checked entries r m x)
          check_base = base_stays check_grows h.base

          open_then : FlowAt Open (told_in a (past.log ++ entries)) (past.may b ++ permitted_by past.state b (1 + length past.steps) checked entries) (taken_in b (past.log ++ entries)) flow.bytes
          open_then = flow_grows contexts check_grows a b tt tt Open flow.bytes open_flow

          check_dir : Dir (push contexts past g checked entries r m x) flow
          check_dir = record { base = check_base; flow_is = flow_grows contexts check_grows a b tt tt flow.end flow.bytes h.flow_is }

        module _ (fields : List Field) (x : Replies contexts past checked entries (replied.Ok fields) m) where
          all_taken : (number_at fields 0 == 0) ≡ false → taken_in b (past.log ++ entries) ≡ past.may b
          all_taken e =
              let n = check_number past.state (1 + length past.steps) 0 to.output entries fields m x in
              let its : number_at fields 0 ≡ n.0 = ap (λ (f : List Field). number_at f 0) n.1 in
              let some : 0 < n.0 = (let z = eqb-false (number_at fields 0) 0 e in positive n.0 (λ zero_. z (its ∙ zero_))) in
              let y : Replies contexts past checked entries (replied.Ok (number_fields n.0)) m = subst (λ (f : List Field). Replies contexts past checked entries (replied.Ok f) m) n.1 x in
              let to_it = writes_to contexts past.steps past.log past.replies past.state past.ran to.output b h.base.output (1 + length past.steps) 0 n.0 entries m y some in
              runs_take_all contexts b past.steps past.log (past.may b) past.state 0 to.output n.0 entries m (past.did b) to_it y some
            where
              positive : (n : ℕ) → (n ≡ 0 → ⊥) → 0 < n
              positive zero z = absurd (z refl)
              positive (suc n) z = omega arith

          by_permit : (b0 : Bool) → (number_at fields 0 == 0) ≡ b0
              → Copies contexts ((if b0 then give flow else (call (guest.Stream (stream_call.Read from.input (min (number_at fields 0) 4096))) >>= after_read to flow)) next) (push contexts past g checked entries (replied.Ok fields) m x)
          by_permit true e = k flow _ (check_dir (replied.Ok fields) x)
          by_permit false e =
              let o = open_then (replied.Ok fields) x in
              let may : past.may b ++ permitted_by past.state b (1 + length past.steps) checked entries ≡ past.may b = (check_grows (replied.Ok fields) x).may b tt in
              reads flow (min (number_at fields 0) 4096) next _ (check_base (replied.Ok fields) x) open_ (o.0, o.1, all_taken e ∙ (sym may ∙ o.0)) k

        by_check : (r : Reply) (x : Replies contexts past checked entries r m) → Copies contexts (after_check from to flow r next) (push contexts past g checked entries r m x)
        by_check (replied.Ok fields) x = by_permit fields x (number_at fields 0 == 0) refl
        by_check r x = ends_broken flow r next _ (check_base r x) (same_front _ _ (open_then r x).0) k

      by_end : (e : DirEnd) → flow.end ≡ e → Copies contexts ((if is_open e then (call (guest.Stream (stream_call.CheckWrite to.output)) >>= after_check from to flow) else give flow) next) past
      by_end Open e = λ g entries r m x. by_check e g entries m r x
      by_end Clean e = k flow past h
      by_end Broken e = k flow past h

      pub copies : Copies contexts (copied from to flow next) past
      copies = by_end flow.end refl
