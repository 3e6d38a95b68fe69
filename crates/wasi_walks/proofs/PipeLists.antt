-- Where a pipe or a result slot joins the records by place, or changes, the sockets are the same, and lookups, pipes and slots stay such.
use Rattle.std.proofs.Common.{◌≡◌, ℕ, inl, List, [], ◌∷◌, ◌++◌, Option, Some, true, refl, ap, ◌∙◌}
use Rattle.std.specs.Prelude.{is_some, ⊤}
use Rattle.memory_streams.specs.Plain.{Contents}
use Rattle.lookup_records.specs.declared.name_lookup.Lookup.{Lookup}
use Rattle.lookup_records.specs.declared.name_lookup.Lookup.TheVariants.{InProgress}
use Rattle.lookup_records.specs.declared.name_lookup.LookupOp.{LookupOp}
use Rattle.wasi_records.specs.declared.records.Record.{Record}
use Rattle.wasi_records.specs.declared.records.Record.TheVariants.{InputPipe, OutputPipe}
use Rattle.wasi_records.specs.Records.{slot_at, slot_pushed, slot_put}
use Rattle.tcp_records.specs.declared.slot.Slot.{Slot}
use Rattle.wasi_records.specs.Records.{input_pipe_at, input_pipe_put, output_pipe_at, output_pipe_put}
use Rattle.wasi_walks.proofs.Places.{slot_sort, there_push, there_put, Apart, Sort, at, input_sort, lookup_sort, other_push, other_put, output_sort, push_some, push_was, pushed, put, put_some, put_was, tcp_sort, udp_sort}
use Rattle.wasi_walks.proofs.walks.Moves.{SameSockets}

-- of a kind that is neither of a socket nor a lookup
module _ {T : Type 0} (s : Sort T) (tcp : Apart s tcp_sort) (udp : Apart s udp_sort) (lookup : Apart s lookup_sort) {new : LookupOp → Type 0} (xs : List Record) where
  pub push_same : (now : T) → SameSockets new xs (pushed s xs now)
  push_same now = record {
    tcp = other_push s tcp_sort tcp xs now;
    udp = other_push s udp_sort udp xs now;
    stays = push_some lookup_sort xs (s.into now);
    inputs = push_some input_sort xs (s.into now);
    outputs = push_some output_sort xs (s.into now);
    slots = push_some slot_sort xs (s.into now);
    there = there_push xs (s.into now);
    looks = λ k op e. inl (push_was s lookup_sort lookup xs now k (InProgress op) e);
  }

  pub put_same : (i : ℕ) (old now : T) → at s xs i ≡ Some old
      → ((k : ℕ) → is_some (at input_sort xs k) ≡ true → is_some (at input_sort (put s xs i now) k) ≡ true)
      → ((k : ℕ) → is_some (at output_sort xs k) ≡ true → is_some (at output_sort (put s xs i now) k) ≡ true)
      → ((k : ℕ) → is_some (at slot_sort xs k) ≡ true → is_some (at slot_sort (put s xs i now) k) ≡ true)
      → SameSockets new xs (put s xs i now)
  put_same i old now e ins outs slots = record {
    tcp = λ k. other_put s tcp_sort tcp xs i old now k e;
    udp = λ k. other_put s udp_sort udp xs i old now k e;
    stays = λ k h. ap (λ (o : Option Lookup). is_some o) (other_put s lookup_sort lookup xs i old now k e) ∙ h;
    inputs = ins;
    outputs = outs;
    slots = slots;
    there = there_put xs i (s.into now);
    looks = λ k op h. inl (put_was s lookup_sort lookup xs i now k (InProgress op) h);
  }

-- the record is one of a pipe
abbrev pub IsPipe : Record → Type 0
IsPipe (InputPipe bytes) = ⊤
IsPipe (OutputPipe pipe) = ⊤
IsPipe _ = ⊥

pub pipe_push : {new : LookupOp → Type 0} (xs : List Record) (now : Record) → IsPipe now
    → SameSockets new xs (xs ++ now ∷ [])
pipe_push xs (InputPipe bytes) p = push_same input_sort (λ t. refl) (λ t. refl) (λ t. refl) xs bytes
pipe_push xs (OutputPipe pipe) p = push_same output_sort (λ t. refl) (λ t. refl) (λ t. refl) xs pipe
pipe_push xs _ p = absurd p

pub input_pipe_same : {new : LookupOp → Type 0} (xs : List Record) (i : ℕ) (old now : List ℕ)
    → input_pipe_at xs i ≡ Some old
    → SameSockets new xs (input_pipe_put xs i now)
input_pipe_same xs i old now e =
    put_same input_sort (λ t. refl) (λ t. refl) (λ t. refl) xs i old now e (put_some input_sort xs i now)
    (λ k h. ap (λ (o : Option Contents). is_some o) (other_put input_sort output_sort (λ t. refl) xs i old now k e) ∙ h)
    (λ k h. ap (λ (o : Option Slot). is_some o) (other_put input_sort slot_sort (λ t. refl) xs i old now k e) ∙ h)

pub output_pipe_same : {new : LookupOp → Type 0} (xs : List Record) (i : ℕ) (old now : Contents)
    → output_pipe_at xs i ≡ Some old
    → SameSockets new xs (output_pipe_put xs i now)
output_pipe_same xs i old now e =
    put_same output_sort (λ t. refl) (λ t. refl) (λ t. refl) xs i old now e
    (λ k h. ap (λ (o : Option (List ℕ)). is_some o) (other_put output_sort input_sort (λ t. refl) xs i old now k e) ∙ h)
    (put_some output_sort xs i now)
    (λ k h. ap (λ (o : Option Slot). is_some o) (other_put output_sort slot_sort (λ t. refl) xs i old now k e) ∙ h)

-- a result slot joins the records, or changes
pub slot_push_same : {new : LookupOp → Type 0} (xs : List Record) (now : Slot) → SameSockets new xs (slot_pushed xs now)
slot_push_same xs now = push_same slot_sort (λ t. refl) (λ t. refl) (λ t. refl) xs now

pub slot_put_same : {new : LookupOp → Type 0} (xs : List Record) (i : ℕ) (old now : Slot) → slot_at xs i ≡ Some old → SameSockets new xs (slot_put xs i now)
slot_put_same xs i old now e =
    put_same slot_sort (λ t. refl) (λ t. refl) (λ t. refl) xs i old now e
    (λ k h. ap (λ (o : Option (List ℕ)). is_some o) (other_put slot_sort input_sort (λ t. refl) xs i old now k e) ∙ h)
    (λ k h. ap (λ (o : Option Contents). is_some o) (other_put slot_sort output_sort (λ t. refl) xs i old now k e) ∙ h)
    (put_some slot_sort xs i now)
