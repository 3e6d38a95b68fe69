-- Each option and each setting is read from exactly its fields.
use Rattle.std.proofs.Common.{◌≡◌, ℕ, zero, suc, ◌≤◌, ◌==◌, Bool, true, false, List, [], ◌∷◌, codes, decimal, refl, ap, subst, arith}
use Rattle.std.specs.Int.{from_bool}
use Rattle.wasi_world.specs.declared.call.Opt.{Opt}
use Rattle.wasi_world.specs.declared.call.Opt.TheVariants as opt
use Rattle.socket_common.specs.declared.setting.Setting.TheVariants as set
use Rattle.socket_common.specs.Options.{number_of}
use Rattle.world_text.specs.Fields.{◌>>=◌, give, after_word, number_at}
use Rattle.world_text.specs.Written.{ReadsExactly, AreVisible, number_fields}
use Rattle.world_text.proofs.ReadBack.{u32_exactly, word_exactly}
use Rattle.world_text.proofs.Visible.{visible_utf8, number_visible}
use Rattle.world_text.proofs.Exactly.{All, Only, exactly, all_give, only_give, all_then, only_then, all_last, only_last, number_exactly}
use Rattle.world_text.proofs.Words.{only_word}
use Rattle.wasi_steps.specs.declared.setting.TcpSetting.{TcpSetting}
use Rattle.wasi_steps.specs.declared.setting.TcpSetting.TheVariants as setting
use Rattle.wasi_steps.specs.declared.setting.UdpOption.{UdpOption}
use Rattle.wasi_steps.specs.declared.setting.UdpOption.TheVariants as udp
use Rattle.wasi_steps.specs.declared.setting.UdpSetting.{UdpSetting}
use Rattle.wasi_steps.specs.declared.setting.UdpSetting.TheVariants as udp_setting
use Rattle.wasi_steps.specs.Settings.{option_word, option_words, option_at, setting_fields, FitsSetting, setting_words, setting_at, udp_option_word, udp_option_words, udp_option_at, udp_setting_fields, FitsUdpSetting, udp_setting_words, udp_setting_at}

-- what holds of the first of a list, and what holds of those after it
infixr 5 ◌and◌
abbrev pub ◌and◌ : {A B : Type 0} → A → B → A × B
first and more = (first, more)

-- the values of settings
bit_exactly : ReadsExactly (number_at 1) number_fields (λ n. n ≤ 1)
bit_exactly = number_exactly 1 (omega arith)

byte_exactly : ReadsExactly (number_at 255) number_fields (λ n. n ≤ 255)
byte_exactly = number_exactly 255 (omega arith)

pub u64_exactly : ReadsExactly (number_at 18446744073709551615) number_fields (λ n. n ≤ 18446744073709551615)
u64_exactly = number_exactly 18446744073709551615 (omega arith)

-- == options
pub option_visible : (option : Opt) → AreVisible (option_word option ∷ [])
option_visible opt.KeepAliveEnabled = refl and tt
option_visible _ = refl and tt

option_all : (option : Opt) → All (after_word option_words (option_word option)) option []
option_all opt.KeepAliveEnabled = all_give
option_all _ = all_give

abbrev ReadsOption : List ℕ → List (List ℕ) → Opt → Type 0
ReadsOption word taken option = Unit {0} × (word ∷ taken ≡ option_word option ∷ [])

pub option_exactly : ReadsExactly option_at (λ option. option_word option ∷ []) (λ option. Unit {0})
unfolding option_at
option_exactly = exactly
    (only_then _ word_exactly (λ word utf8. only_word ReadsOption option_words word
    (only_give opt.KeepAliveEnabled (tt, refl) and only_give opt.KeepAliveIdleTime (tt, refl) and only_give opt.KeepAliveInterval (tt, refl)
    and only_give opt.KeepAliveCount (tt, refl) and only_give opt.HopLimit (tt, refl) and only_give opt.ReceiveBufferSize (tt, refl)
    and only_give opt.SendBufferSize (tt, refl) and tt)))
    (λ option u. all_last _ word_exactly (visible_utf8 (option_word option) (option_visible option).0) (option_all option))

-- == settings
-- 0 and 1 are the numbers of no and yes
bit_is : (n : ℕ) → n ≤ 1 → n ≡ from_bool (n == 1)
bit_is zero fits = refl
bit_is (suc zero) fits = refl
bit_is (suc (suc n)) fits = absurd (omega arith)

bit_all : (b : Bool) → All (number_at 1 >>= λ n. give (setting.Option (set.KeepAliveEnabled (n == 1)))) (setting.Option (set.KeepAliveEnabled b))
    (decimal (from_bool b) ∷ [])
bit_all true = all_last _ bit_exactly (omega arith) all_give
bit_all false = all_last _ bit_exactly (omega arith) all_give

abbrev ReadsSetting : List ℕ → List (List ℕ) → TcpSetting → Type 0
ReadsSetting word taken s = FitsSetting s × (word ∷ taken ≡ setting_fields s)

settings_only : (word : List ℕ) → Only (after_word setting_words word) (ReadsSetting word)
settings_only word = only_word ReadsSetting setting_words word
    (only_last (λ n. setting.Option (set.KeepAliveEnabled (n == 1))) bit_exactly
    (λ n fits. (subst (λ m. m ≤ 1) (bit_is n fits) fits, ap (λ m. codes "keep-alive-enabled" ∷ decimal m ∷ []) (bit_is n fits)))
    and only_last (λ n. setting.Option (set.KeepAliveCount n)) u32_exactly (λ n fits. (fits, refl))
    and only_last (λ n. setting.Option (set.HopLimit n)) byte_exactly (λ n fits. (fits, refl))
    and only_last (λ n. setting.Option (set.KeepAliveIdleTime n)) u64_exactly (λ n fits. (fits, refl))
    and only_last (λ n. setting.Option (set.KeepAliveInterval n)) u64_exactly (λ n fits. (fits, refl))
    and only_last (λ n. setting.Option (set.ReceiveBufferSize n)) u64_exactly (λ n fits. (fits, refl))
    and only_last (λ n. setting.Option (set.SendBufferSize n)) u64_exactly (λ n fits. (fits, refl))
    and only_last setting.ListenBacklogSize u64_exactly (λ n fits. (fits, refl))
    and tt)

-- a word, and what it has after it
setting_by : (word : List ℕ) {s : TcpSetting} {taken : List (List ℕ)} → AreVisible (word ∷ []) → All (after_word setting_words word) s taken → All setting_at s (word ∷ taken)
unfolding setting_at
setting_by word visible value = all_then _ word_exactly (visible_utf8 word visible.0) value

setting_all : (s : TcpSetting) → FitsSetting s → All setting_at s (setting_fields s)
setting_all (setting.Option (set.KeepAliveEnabled b)) fits = setting_by _ (refl and tt) (bit_all b)
setting_all (setting.Option (set.KeepAliveCount n)) fits = setting_by _ (refl and tt) (all_last _ u32_exactly fits all_give)
setting_all (setting.Option (set.HopLimit n)) fits = setting_by _ (refl and tt) (all_last _ byte_exactly fits all_give)
setting_all (setting.Option _) fits = setting_by _ (refl and tt) (all_last _ u64_exactly fits all_give)
setting_all (setting.ListenBacklogSize n) fits = setting_by _ (refl and tt) (all_last _ u64_exactly fits all_give)

pub setting_exactly : ReadsExactly setting_at setting_fields FitsSetting
unfolding setting_at
setting_exactly = exactly (only_then _ word_exactly (λ word utf8. settings_only word)) setting_all

-- the fields of a setting are visible
bit_visible : (b : Bool) → AreVisible (decimal (from_bool b) ∷ [])
bit_visible true = number_visible 1 (omega arith) and tt
bit_visible false = number_visible 0 (omega arith) and tt

value_visible : (n : ℕ) → n ≤ 18446744073709551615 → AreVisible (decimal n ∷ [])
value_visible n fits = number_visible n (omega arith) and tt

pub setting_visible : (s : TcpSetting) → FitsSetting s → AreVisible (setting_fields s)
setting_visible (setting.Option (set.KeepAliveEnabled b)) fits = refl and bit_visible b
setting_visible (setting.Option (set.KeepAliveCount n)) fits = refl and value_visible n (omega arith)
setting_visible (setting.Option (set.HopLimit n)) fits = refl and value_visible n (omega arith)
setting_visible (setting.Option _) fits = refl and value_visible _ fits
setting_visible (setting.ListenBacklogSize n) fits = refl and value_visible n fits

-- == options and settings of a UDP socket
pub udp_option_visible : (option : UdpOption) → AreVisible (udp_option_word option ∷ [])
udp_option_visible udp.HopLimit = refl and tt
udp_option_visible _ = refl and tt

udp_option_all : (option : UdpOption) → All (after_word udp_option_words (udp_option_word option)) option []
udp_option_all udp.HopLimit = all_give
udp_option_all _ = all_give

pub udp_option_exactly : ReadsExactly udp_option_at (λ option. udp_option_word option ∷ []) (λ option. Unit {0})
unfolding udp_option_at
udp_option_exactly = exactly
    (only_then _ word_exactly (λ word utf8. only_word (λ word taken option. Unit {0} × (word ∷ taken ≡ udp_option_word option ∷ [])) udp_option_words word
    (only_give udp.HopLimit (tt, refl) and only_give udp.ReceiveBufferSize (tt, refl) and only_give udp.SendBufferSize (tt, refl) and tt)))
    (λ option u. all_last _ word_exactly (visible_utf8 (udp_option_word option) (udp_option_visible option).0) (udp_option_all option))

abbrev ReadsUdpSetting : List ℕ → List (List ℕ) → UdpSetting → Type 0
ReadsUdpSetting word taken s = FitsUdpSetting s × (word ∷ taken ≡ udp_setting_fields s)

udp_settings_only : (word : List ℕ) → Only (after_word udp_setting_words word) (ReadsUdpSetting word)
udp_settings_only word = only_word ReadsUdpSetting udp_setting_words word
    (only_last udp_setting.HopLimit byte_exactly (λ n fits. (fits, refl))
    and only_last udp_setting.ReceiveBufferSize u64_exactly (λ n fits. (fits, refl))
    and only_last udp_setting.SendBufferSize u64_exactly (λ n fits. (fits, refl))
    and tt)

udp_setting_all : (s : UdpSetting) → FitsUdpSetting s → All udp_setting_at s (udp_setting_fields s)
unfolding udp_setting_at
udp_setting_all (udp_setting.HopLimit n) fits = all_then _ word_exactly (visible_utf8 _ refl) (all_last _ byte_exactly fits all_give)
udp_setting_all _ fits = all_then _ word_exactly (visible_utf8 _ refl) (all_last _ u64_exactly fits all_give)

pub udp_setting_exactly : ReadsExactly udp_setting_at udp_setting_fields FitsUdpSetting
unfolding udp_setting_at
udp_setting_exactly = exactly (only_then _ word_exactly (λ word utf8. udp_settings_only word)) udp_setting_all

pub udp_setting_visible : (s : UdpSetting) → FitsUdpSetting s → AreVisible (udp_setting_fields s)
udp_setting_visible (udp_setting.HopLimit n) fits = refl and value_visible n (omega arith)
udp_setting_visible _ fits = refl and value_visible _ fits
