-- Marks of handles in the logs of runs.
use Rattle.std.specs.Prelude.{◌≡◌, ℕ, ◌+◌, ◌<◌, ◌^◌, List, [], ◌∷◌, ◌++◌, Option, Some}
use Rattle.wasi_addr.specs.declared.address.ShutdownType.TheVariants.{Receive}
use Rattle.wasi_world.specs.declared.call.Call.TheVariants.{Made, Read, Shutdown}
use Rattle.wasi_world.specs.declared.call.Entry.{Entry}
use Rattle.wasi_world.specs.declared.call.HandleKind.{HandleKind}
use Rattle.wasi_world.specs.declared.call.HandleKind.TheVariants.{ErrorValue}
use Rattle.wasi_world.specs.declared.call.Told.{Told}
use Rattle.wasi_world.specs.declared.call.Told.TheVariants.{Code, Done}
use Rattle.wasi_addr.specs.declared.code.ErrorCode.{ErrorCode}
use Rattle.wasi_world.specs.declared.ids.OpId.{OpId}
use Rattle.wasi_steps.specs.declared.reply.CodeWord.{CodeWord}
use Rattle.wasi_steps.specs.declared.reply.Field.{Field}
use Rattle.wasi_steps.specs.Reply.{number_fields, pair_fields, triple_fields}
use Rattle.wasi_walks.specs.Allowed.{Has, IsSide, entry}
use Rattle.wasi_walks.specs.Answered.{word_of_code}
use Rattle.wasi_walks.specs.Licence.{marks_in}
use Rattle.wasi_walks.specs.Listens.{accepted_marks}

-- Two marks of the log, one after the other.
pub record TwoMarks (log : List Entry) (first second : ℕ) : Type 0 where
  pub front : List Entry
  pub between : List Entry
  pub back : List Entry
  pub op : OpId
  pub other : OpId
  pub kind : HandleKind
  pub name : HandleKind
  pub parent : Option ℕ
  pub above : Option ℕ
  pub sock : Option OpId
  pub side : Option OpId
  pub told : Told
  pub answer : Told
  pub cut : log ≡ front ++ entry op (Made first kind parent sock) told ∷
      (between ++ entry other (Made second name above side) answer ∷ back)

-- An accept marked the three handles that follow those of the log: its socket's, its input's and its output's.
pub record MarksThree (log : List Entry) (own : OpId) (listener : ℕ) (fields : List Field) (entries : List Entry)
    : Type 0 where
  pub side : OpId
  pub front : List Entry
  pub cut : entries ≡ front ++ accepted_marks own listener (marks_in log + 1) side
  pub gives : fields ≡ triple_fields (marks_in log + 1) (marks_in log + 2) (marks_in log + 3)

-- A read of the stream's network socket was answered with the code that the word is of; its half was shut, and the
-- error marked, all with that network socket.
pub record FailsOnItsSide (log : List Entry) (own : OpId) (stream : ℕ) (word : CodeWord) (entries : List Entry)
    : Type 0 where
  pub side : OpId
  pub of_handle : IsSide log stream side
  pub size : ℕ
  pub code : ErrorCode
  pub word_is : word ≡ word_of_code code
  pub cut : entries ≡ entry own (Read side size) (Code code) ∷ entry own (Shutdown side Receive) Done
      ∷ entry own (Made (marks_in log + 1) ErrorValue (Some stream) (Some side)) Done ∷ []

-- So the last entries of a call that blocks are, after those of its look.
pub record FailsAtLast (log : List Entry) (own : OpId) (stream : ℕ) (word : CodeWord) (entries : List Entry)
    : Type 0 where
  pub front : List Entry
  pub rest : List Entry
  pub cut : entries ≡ front ++ rest
  pub fails : FailsOnItsSide log own stream word rest

-- The handle was marked among these entries by this operation, and has 32 bits.
pub record IsNewHandle (own : OpId) (entries : List Entry) (handle : ℕ) : Type 0 where
  pub kind : HandleKind
  pub parent : Option ℕ
  pub sock : Option OpId
  pub told : Told
  pub marked : Has entries (entry own (Made handle kind parent sock) told)
  pub small : handle < 2 ^ 32

-- A reply gives such a handle; or two, or three.
pub record GivesOne (own : OpId) (entries : List Entry) (fields : List Field) : Type 0 where
  pub handle : ℕ
  pub gives : fields ≡ number_fields handle
  pub made : IsNewHandle own entries handle

pub record GivesTwo (own : OpId) (entries : List Entry) (fields : List Field) : Type 0 where
  pub input : ℕ
  pub output : ℕ
  pub gives : fields ≡ pair_fields input output
  pub input_made : IsNewHandle own entries input
  pub output_made : IsNewHandle own entries output

pub record GivesThree (own : OpId) (entries : List Entry) (fields : List Field) : Type 0 where
  pub socket : ℕ
  pub input : ℕ
  pub output : ℕ
  pub gives : fields ≡ triple_fields socket input output
  pub socket_made : IsNewHandle own entries socket
  pub input_made : IsNewHandle own entries input
  pub output_made : IsNewHandle own entries output
