-- Records where a look would begin nothing more, and whose listeners accept by an accept.
use Rattle.wasi_causes.proofs.Words.{◌≡◌, ◌∙◌, ℕ, false}
use Rattle.wasi_causes.proofs.Words.{List}
use Rattle.wasi_causes.proofs.Words.{Option}
use Rattle.wasi_causes.proofs.Words.{Some, TcpRecord}
use Rattle.wasi_causes.proofs.Words.{ap, inl, inr}
use Rattle.wasi_causes.proofs.Words.{refl, subst, sym}
use Rattle.tcp_records.specs.Looks.{socket_begins}
use Rattle.wasi_causes.proofs.Words.{None, [], slice_get, suc, zero, ◌∷◌, ◌⊎◌}
use Rattle.wasi_records.specs.Numbered.{record_gone}
use Rattle.wasi_records.specs.Records.{open_at, open_put, tcp2_at, tcp2_of, tcp2_put, udp2_at, udp2_of}
use Rattle.udp_records.specs.Udp.{open_of}
use Rattle.wasi_records.specs.declared.records.Record.{Record}
use Rattle.udp_records.specs.declared.udp.OpenUdp.{OpenUdp}
use Rattle.udp_records.specs.declared.udp.UdpRecord.{UdpRecord}
use Rattle.udp_records.specs.declared.udp.UdpRecord.TheVariants.{Open}
use Rattle.wasi_host.specs.Polling.{tcp_begins, udp_begins}
use Rattle.wasi_walks.proofs.Places.{other_put, put_either, tcp_sort, udp_sort}
use Rattle.wasi_walks.proofs.fits.Records.{FitListening}
use Rattle.wasi_walks.proofs.walks.Udp.{open_is}

-- == records
-- Where a look would begin nothing before, it would begin nothing afterwards.
pub record BeginsNoMore (old now : List Record) : Type 0 where
  pub tcp : (k : ℕ) → tcp_begins (tcp2_at old k) ≡ false → tcp_begins (tcp2_at now k) ≡ false
  pub udp : (k : ℕ) → udp_begins (open_at old k) ≡ false → udp_begins (open_at now k) ≡ false

-- What each listener accepts by is an accept.
abbrev pub AcceptsFit : List Record → Type 0
AcceptsFit records = (k : ℕ) (r : TcpRecord) → tcp2_at records k ≡ Some r → FitListening r.listening

pub no_more_same : (xs : List Record) → BeginsNoMore xs xs
no_more_same xs = record { tcp = λ k none. none; udp = λ k none. none }

pub no_more_then : {one two three : List Record} → BeginsNoMore one two → BeginsNoMore two three → BeginsNoMore one three
no_more_then s t = record { tcp = λ k none. t.tcp k (s.tcp k none); udp = λ k none. t.udp k (s.udp k none) }

module _ (xs : List Record) (i : ℕ) (r now : TcpRecord) (at : tcp2_at xs i ≡ Some r) where
  pub tcp_no_more : (socket_begins r ≡ false → socket_begins now ≡ false) → BeginsNoMore xs (tcp2_put xs i now)
  tcp_no_more keeps = record {
    tcp = λ k none. elim (put_either tcp_sort xs i r now k at) [
      | inl e ↦ ap tcp_begins e ∙ none
      | inr e ↦ ap tcp_begins e.1 ∙ keeps (sym (ap tcp_begins e.0) ∙ none)
    ];
    udp = λ k none. ap (λ (u : Option UdpRecord). udp_begins (open_of u))
        (other_put tcp_sort udp_sort (λ t. refl) xs i r now k at) ∙ none;
  }

  pub tcp_fits : FitListening now.listening → AcceptsFit xs → AcceptsFit (tcp2_put xs i now)
  tcp_fits fit all k x e = elim (put_either tcp_sort xs i r now k at) [
    | inl same ↦ all k x (sym same ∙ e)
    | inr its ↦ (let same : now ≡ x = (let p : Some now ≡ Some x = sym its.1 ∙ e in cc) in subst
        (λ (y : TcpRecord). FitListening y.listening) same fit)
  ]

module _ (xs : List Record) (i : ℕ) (o now : OpenUdp) (at : open_at xs i ≡ Some o) where
  pub open_no_more : (udp_begins (Some o) ≡ false → udp_begins (Some now) ≡ false) → BeginsNoMore xs (open_put xs i now)
  open_no_more keeps = record {
    tcp = λ k none. ap tcp_begins
        (other_put udp_sort tcp_sort (λ t. refl) xs i (Open o) (Open now) k (open_is (udp2_at xs i) o at)) ∙ none;
    udp = λ k none. elim (put_either udp_sort xs i (Open o) (Open now) k (open_is (udp2_at xs i) o at)) [
      | inl e ↦ ap (λ (u : Option UdpRecord). udp_begins (open_of u)) e ∙ none
      | inr e ↦ ap (λ (u : Option UdpRecord). udp_begins (open_of u)) e.1 ∙ keeps
          (sym (ap (λ (u : Option UdpRecord). udp_begins (open_of u)) e.0) ∙ none)
    ];
  }

  pub open_fits : AcceptsFit xs → AcceptsFit (open_put xs i now)
  open_fits all k x e = all k x
      (sym (other_put udp_sort tcp_sort (λ t. refl) xs i (Open o) (Open now) k (open_is (udp2_at xs i) o at)) ∙ e)

-- nothing begins in a record that is given back
udp_none : (o : Option UdpRecord) (k : Option UdpRecord) → (o ≡ k) ⊎ (o ≡ None) → udp_begins (open_of k) ≡ false → udp_begins (open_of o) ≡ false
udp_none o k (inl same) none = ap (λ (u : Option UdpRecord). udp_begins (open_of u)) same ∙ none
udp_none o k (inr gone) none = ap (λ (u : Option UdpRecord). udp_begins (open_of u)) gone

tcp_none : (o : Option TcpRecord) (k : Option TcpRecord) → (o ≡ k) ⊎ (o ≡ None) → tcp_begins k ≡ false → tcp_begins o ≡ false
tcp_none o k (inl same) none = ap tcp_begins same ∙ none
tcp_none o k (inr gone) none = ap tcp_begins gone

module _ {A : Type 0} (f : Option Record → Option A) (none : f (Some Record.Gone) ≡ None) where
  or_none : (xs : List Record) (i k : ℕ) → (f (slice_get (record_gone xs i) k) ≡ f (slice_get xs k)) ⊎ (f (slice_get (record_gone xs i) k) ≡ None)
  or_none [] i k = inl refl
  or_none (z ∷ xs) zero zero = inr none
  or_none (z ∷ xs) zero (suc k) = inl refl
  or_none (z ∷ xs) (suc i) zero = inl refl
  or_none (z ∷ xs) (suc i) (suc k) = or_none xs i k

pub no_more_gone : (xs : List Record) (i : ℕ) → BeginsNoMore xs (record_gone xs i)
no_more_gone xs i = record { tcp = λ k none. tcp_none _ _ (or_none tcp2_of refl xs i k) none; udp = λ k none. udp_none _ _ (or_none udp2_of refl xs i k) none }
