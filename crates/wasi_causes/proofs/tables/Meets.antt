-- How it is shown that whatever a tree gives is in a table.
use Rattle.wasi_causes.proofs.Words.{⊤, ◌≡◌, IsDone, Bool, true, false, if◌then◌else◌, List, [], ◌∷◌, ◌++◌, refl, sym, subst, append_assoc, append-nil, OpId, Call, Entry, Told, Fits, Asks, Give, Ask, AskWrite, bind, Left, entry, Gives, gives_then, gives_more, gives_any, gives_both, gives_where, given}
use Rattle.wasi_world.specs.declared.call.Told.TheVariants as told

abbrev pub Rows : Type 0 → Type 1
Rows A = List Entry → A → Type 0

-- Whatever is answered, what the tree gives after these entries is in the table.
pub record Meets {A : Type 0} (Row : Rows A) (before : List Entry) (asks : Asks A) : Type 0 where
  pub along : Gives Row before asks

pub ends : {A : Type 0} {Row : Rows A} {before : List Entry} {a : A} → Row before a → Meets Row before (Give a)
ends row = record { along = row }

pub asks : {A : Type 0} {Row : Rows A} {before : List Entry} {op : OpId} {c : Call} {next : Told → Asks A} → ((t : Told) → Fits c t → Meets Row (before ++ entry op c t ∷ []) (next t)) → Meets Row before (Ask op c next)
asks k = record { along = (tt, λ t fits. (k t fits).along) }

pub chain : {A B : Type 0} {Mid : Rows A} {Row : Rows B} {before : List Entry} {first : Asks A} {f : A → Asks B} → Meets Mid before first → ((es : List Entry) (a : A) → Mid es a → Meets Row es (f a)) → Meets Row before (bind first f)
chain {Mid} {Row} {before} {first} {f} t k = record { along = gives_then Mid Row before first f t.along (λ es a row. (k es a row).along) }

pub onto : {A B : Type 0} {Row : Rows B} {before : List Entry} {first : Asks A} (f : A → B) → Meets (λ es a. Row es (f a)) before first → Meets Row before (bind first (λ a. Give (f a)))
onto {Row} f t = chain t (λ es a row. ends row)

pub widen : {A : Type 0} {Mid Row : Rows A} {before : List Entry} {first : Asks A} → ((es : List Entry) (a : A) → Mid es a → Row es a) → Meets Mid before first → Meets Row before first
widen {Mid} {Row} {before} {first} k t = record { along = gives_more Mid Row k before first t.along }

pub branch : {A : Type 0} {Row : Rows A} {before : List Entry} {yes no : Asks A} (b : Bool) → (b ≡ true → Meets Row before yes) → (b ≡ false → Meets Row before no) → Meets Row before (if b then yes else no)
branch true y n = y refl
branch false y n = n refl

pub whatever : {A : Type 0} (first : Asks A) → Meets (λ es a. ⊤) [] first
whatever first = record { along = gives_any (λ es a. ⊤) (λ es a. tt) [] first }

pub both : {A : Type 0} {One Two : Rows A} {before : List Entry} {first : Asks A} → Meets One before first → Meets Two before first → Meets (λ es a. One es a × Two es a) before first
both {One} {Two} {before} {first} t u = record { along = gives_both One Two before first t.along u.along }

pub granted : {A : Type 0} {P : Type 0} {Row : Rows A} {before : List Entry} {first : Asks A} → (P → Meets Row before first) → Meets (λ es a. P → Row es a) before first
granted {P} {Row} {before} {first} t = record { along = gives_where P Row before first (λ p. (t p).along) }

gives_each : {A P : Type 0} (Row : P → Rows A) (before : List Entry) (first : Asks A) → ((p : P) → Gives (Row p) before first) → Gives (λ es a. (p : P) → Row p es a) before first
gives_each Row before (Give a) h = h
gives_each Row before (Ask op c next) h = (tt, λ t fits. gives_each Row (before ++ entry op c t ∷ []) (next t) (λ p. (h p).1 t fits))
gives_each Row before (AskWrite op sock bytes next) h = (tt, λ t fits taken. gives_each Row _ (next t) (λ p. (h p).1 t fits taken))

-- for each of these
pub granted_each : {A P : Type 0} {Row : P → Rows A} {before : List Entry} {first : Asks A} → ((p : P) → Meets (Row p) before first) → Meets (λ es a. (p : P) → Row p es a) before first
granted_each {Row} {before} {first} t = record { along = gives_each Row before first (λ p. (t p).along) }

pub met : {A : Type 0} {Row : Rows A} {first : Asks A} {es : List Entry} {a : A} → Meets Row [] first → Left first es (Give a) → Row es a
met {Row} {first} {es} {a} t w = given Row first es a t.along w

-- a call that is only done is answered so
pub told_so : (op : OpId) (es : List Entry) (c : Call) (t : Told) → IsDone t → es ++ entry op c t ∷ [] ≡ es ++ entry op c told.Done ∷ []
told_so op es c told.Done fits = refl
told_so op es c _ fits = absurd fits

-- == after other entries
-- The entries are these and then some of which the table speaks.
pub record After {A : Type 0} (Row : Rows A) (front : List Entry) (es : List Entry) (a : A) : Type 0 where
  pub rest : List Entry
  pub cut : es ≡ front ++ rest
  pub row : Row rest a

shifts : {A : Type 0} (Row : Rows A) (front before : List Entry) (first : Asks A) → Gives Row before first → Gives (After Row front) (front ++ before) first
shifts Row front before (Give a) h = record { rest = before; cut = refl; row = h }
shifts Row front before (Ask op c next) h = (tt, λ t fits. subst (λ (es : List Entry). Gives (After Row front) es (next t)) (sym (append_assoc front before _)) (shifts Row front (before ++ entry op c t ∷ []) (next t) (h.1 t fits)))
shifts Row front before (AskWrite op sock bytes next) h = (tt, λ t fits taken. subst (λ (es : List Entry). Gives (After Row front) es (next t)) (sym (append_assoc front before _)) (shifts Row front _ (next t) (h.1 t fits taken)))

pub shifted : {A : Type 0} {Row : Rows A} (front : List Entry) {first : Asks A} → Meets Row [] first → Meets (After Row front) front first
shifted {Row} front {first} t = record { along = subst (λ (es : List Entry). Gives (After Row front) es first) (append-nil front) (shifts Row front [] first t.along) }
