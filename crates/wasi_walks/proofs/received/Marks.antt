-- The handle of an incoming stream was marked before the place from which on its network socket's datagrams are handed out.
use Rattle.wasi_walks.proofs.Words.{Call, Entry, HandleTable, IsSide, Kind, List, OpId, Option, Some, GuestCall, Step, Told, [], append-nil, append_assoc, ap, arith}
use Rattle.wasi_walks.proofs.Words.{entry, inl, inr, kind_at, length, length-append, name_of, subst, sym, with_handle, without_handle, ℕ, ⊤, ◌+◌, ◌++◌, ◌∙◌, ◌∷◌, ◌≡◌, ◌≤◌, ◌⊎◌}
use Rattle.wasi_table.proofs.Tables.{value_without}
use Rattle.host_store.specs.declared.kind.Kind.TheVariants.{Incoming, Input, Output}
use Rattle.wasi_records.specs.declared.records.Record.{Record}
use Rattle.wasi_walks.proofs.Lists.{has_last}
use Rattle.wasi_walks.proofs.licence.Frames.{side_more}
use Rattle.wasi_walks.proofs.received.Handles.{was_or_new}
use Rattle.wasi_walks.proofs.received.State.{Late}
use Rattle.wasi_walks.proofs.walks.Moves as walk
use Rattle.wasi_walks.proofs.walks.Moves.{Here, MakesPlain, Marks, Move}
use Rattle.wasi_steps.specs.declared.guest_call.PipeCall.{PipeCall}

-- The handle was marked with the network socket before this place of the log.
pub record Early (start : ℕ) (es : List Entry) (side : OpId) (handle : ℕ) : Type 0 where
  pub front : List Entry
  pub back : List Entry
  pub cut : es ≡ front ++ back
  pub marked : IsSide front handle side
  pub before : length front ≤ start

-- The handle is marked with a network socket; if with this one, before this place.
pub record IsEarly (side : OpId) (start : ℕ) (es : List Entry) (handle : ℕ) : Type 0 where
  pub its : OpId
  pub marked : IsSide es handle its
  pub early : its ≡ side → Early start es side handle

-- so are all incoming streams
abbrev pub AreEarly : OpId → ℕ → List Entry → HandleTable → Type 0
AreEarly side start es t = (handle place : ℕ) → kind_at t handle ≡ Some (Incoming place) → IsEarly side start es handle

-- from this place on the datagrams of the network socket are handed out: what its streams hold was received later
pub record Since (side : OpId) (from : ℕ) (es : List Entry) (records : List Record) (t : HandleTable) : Type 0 where
  pub start : ℕ
  pub on : from ≤ start
  pub late : Late side start es records
  pub early : AreEarly side start es t

module _ (side : OpId) where
  -- == under more entries, and up to a later place
  pub early_more : (start later : ℕ) (es fs : List Entry) (handle : ℕ) → start ≤ later → Early start es side handle → Early later (es ++ fs) side handle
  early_more start later es fs handle l k = record { front = k.front; back = k.back ++ fs; cut = ap (λ (xs : List Entry). xs ++ fs) k.cut ∙ append_assoc k.front k.back fs; marked = k.marked; before = (let p = k.before in omega arith) }

  is_early_more : (start later : ℕ) (es fs : List Entry) (handle : ℕ) → start ≤ later → IsEarly side start es handle → IsEarly side later (es ++ fs) handle
  is_early_more start later es fs handle l k = record { its = k.its; marked = side_more es fs handle k.its k.marked; early = λ e. early_more start later es fs handle l (k.early e) }

  pub are_early_more : (start later : ℕ) (es fs : List Entry) (t : HandleTable) → start ≤ later → AreEarly side start es t → AreEarly side later (es ++ fs) t
  are_early_more start later es fs t l k = λ handle place e. is_early_more start later es fs handle l (k handle place e)

  pub are_early_later : (start later : ℕ) (es : List Entry) (t : HandleTable) → start ≤ later → AreEarly side start es t → AreEarly side later es t
  are_early_later start later es t l k = λ handle place e. (
      let i = k handle place e in
      record { its = i.its; marked = i.marked; early = λ q. (let j = i.early q in record { front = j.front; back = j.back; cut = j.cut; marked = j.marked; before = (let p = j.before in omega arith) }) })

  -- == the table changes
  abbrev pub NotIncoming : Kind → Type 0
  NotIncoming (Incoming place) = ⊥
  NotIncoming _ = ⊤

  pub early_other : (start : ℕ) (es : List Entry) (t : HandleTable) (kind : Kind) (parent : Option ℕ) → NotIncoming kind → AreEarly side start es t → AreEarly side start es (with_handle t kind parent)
  early_other start es t kind parent not k handle place e = elim (was_or_new t kind parent handle (Incoming place) e) [ inl was ↦ k handle place was | inr new ↦ absurd (subst NotIncoming new.1 not) ]

  pub early_without : (start : ℕ) (es : List Entry) (t : HandleTable) (gone : ℕ) → AreEarly side start es t → AreEarly side start es (without_handle t gone)
  early_without start es t gone k handle place e = k handle place (value_without t.live gone handle (Incoming place) e)

  -- the handle of a new stream is marked
  pub early_new : (start later : ℕ) (es : List Entry) (t : HandleTable) (op : OpId) (kind : Kind) (parent : Option ℕ) (its : OpId) (told : Told) → start ≤ later → (its ≡ side → length es + 1 ≤ later) → AreEarly side start es t
      → (let e : Entry = entry op (Call.Made t.next (name_of kind) parent (Some its)) told in AreEarly side later (es ++ e ∷ []) (with_handle t kind parent))
  early_new start later es t op kind parent its told l last k = λ handle place d. elim (was_or_new t kind parent handle (Incoming place) d) [ inl was ↦ is_early_more start later es _ handle l (k handle place was) | inr new ↦ subst (IsEarly side later (es ++ e ∷ [])) new.0 now ]
    where
      e : Entry
      e = entry op (Call.Made t.next (name_of kind) parent (Some its)) told

      marked : IsSide (es ++ e ∷ []) t.next its
      marked = record { op = op; kind = name_of kind; parent = parent; told = told; mark = has_last es e }

      now : IsEarly side later (es ++ e ∷ []) t.next
      now = record { its = its; marked = marked; early = λ same. record { front = es ++ e ∷ []; back = []; cut = sym (append-nil (es ++ e ∷ [])); marked = subst (IsSide (es ++ e ∷ []) t.next) same marked; before = (let p = length-append es (e ∷ []) in let q = last same in omega (arith, p, q)) } }

  -- == of what a line marks
  plain_other : (s : Step) (kind : Kind) → MakesPlain s kind → NotIncoming kind
  plain_other (Step.Call ctx (GuestCall.Pipe (PipeCall.In bytes))) (Incoming place) m = m
  plain_other (Step.Call ctx (GuestCall.Pipe (PipeCall.Out capacity))) (Incoming place) m = m
  plain_other (Step.Call ctx (GuestCall.Pipe PipeCall.Sink)) (Incoming place) m = m
  plain_other (Step.Call ctx (GuestCall.Pipe PipeCall.ClosedIn)) (Incoming place) m = m
  plain_other (Step.Call ctx (GuestCall.Pipe PipeCall.ClosedOut)) (Incoming place) m = m
  plain_other _ (Incoming place) m = m
  plain_other s _ m = tt

  of_tcp : (kind : Kind) (place : ℕ) → (kind ≡ Input place) ⊎ (kind ≡ Output place) → NotIncoming kind
  of_tcp kind place (inl e) = subst NotIncoming (sym e) tt
  of_tcp kind place (inr e) = subst NotIncoming (sym e) tt

  of_end : (socket : ℕ) (kind : Kind) (s : Step) → walk.MakesEnd socket kind s → NotIncoming kind
  of_end socket (Incoming place) s m = absurd m
  of_end socket _ s m = tt

  pub is_other : (origin : Step) (h : Here) (kind : Kind) (parent : Option ℕ) (sock : Option OpId) → Marks origin h kind parent sock → NotIncoming kind
  is_other origin h kind _ _ (walk.AStream c handle place _ is e opened) = of_tcp kind place e
  is_other origin h kind _ _ (walk.AnAcceptedStream c listener handle place _ r is e made own g) = of_tcp kind place e
  is_other origin h kind _ _ (walk.APlain _ makes numbered) = plain_other origin kind makes
  is_other origin h kind _ _ (walk.AnEnd socket place _ end r m in_it e g is made) = of_end socket kind origin m
  is_other origin h _ _ _ _ = tt

  -- == moves
  pub moves_early : {line : ℕ} {origin : Step} (start : ℕ) (es : List Entry) (h now : Here) → Move line origin h now → AreEarly side start es h.machine.table → AreEarly side start es now.machine.table
  moves_early start es _ _ (walk.Empties h handle kind quiet e none) k = early_without start es h.machine.table handle k
  moves_early start es _ _ (walk.Takes h handle quiet past none) k = early_without start es h.machine.table handle k
  moves_early start es _ _ _ k = k
