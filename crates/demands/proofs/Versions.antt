-- Proofs of the statements in specs/Versions.
use Prim.Native.Nat.{ℕ}
use mathlib.Core.Path.{◌≡◌, refl, sym, subst, ◌∙◌}
use mathlib.Core.Bool.{false≢true}
use mathlib.Core.List.{[], ◌∷◌}
use mathlib.Core.Logic.{⊎_elim}
use Rattle.text.proofs.Numbers.{eq_or_ne}
use Rattle.records.specs.Record.{may_end}
use Rattle.fields.specs.Profile.{profile}
use Rattle.records.specs.Version.{version_numbered}
use Rattle.records.specs.declared.version.Version.{Version}
use Rattle.records.specs.declared.version.Version.TheVariants.{Five, Seven}
use Rattle.records.proofs.Versions.{told_neither}
use Rattle.records.specs.declared.record.Record.{Record}
use Rattle.grammar.specs.Grammar.{LineOk}
use Rattle.allowed.specs.Allowed.{AllowedUnder, version_on}
use Rattle.allowed.proofs.Versions.{first_header, header_says, version_on_lem, under_one, version_found}
use Rattle.allowed.proofs.Saying as saying
use Rattle.refused.proofs.Deciding.{judge_exactly}
use Rattle.refused.proofs.Told.{same_version, no_version}
use Rattle.std.specs.Prelude.{Some, Ok}
use Rattle.demands.specs.Versions.{
  VersionExactly,
  FileExactlyUnder,
  OneVersion,
  AllowedExactlyUnder,
  HeaderHasVersion,
  FirstReadsSeven,
  ToldExactly,
}

pub version_exactly : VersionExactly
version_exactly s = (saying.version_says s, saying.says_version s)

pub file_exactly_under : FileExactlyUnder
file_exactly_under version s lent totals list = (
  λ p.
      let a = (judge_exactly s lent (Ok totals) list).0 p.0 in
      (a, subst (λ (v : Version). AllowedUnder v lent.countries s a.lines) (sym (version_found a.allowed) ∙ p.1) a.allowed),
  λ g. ((judge_exactly s lent (Ok totals) list).1 g.0, under_one g.0.lines g.1),
)

pub one_version : OneVersion
one_version version other countries others s ls ks a b = sym (under_one ls a) ∙ under_one ks b

pub allowed_exactly_under : AllowedExactlyUnder
allowed_exactly_under countries s ls = (
  λ a. (version_on ls, a),
  λ u. subst (λ (v : Version). AllowedUnder v countries s ls) (sym (version_on_lem u.0 ls u.1.lines u.1.order)) u.1,
)

pub header_has_version : HeaderHasVersion
unfolding may_end
header_has_version version countries s [] a = absurd (false≢true a.order)
header_has_version version countries s (l ∷ ls) a =
    let kind = first_header l.kind a.order.0 in
    let ok = subst (λ (k : Record). LineOk (profile version) k l.fields) kind a.lines.0 in
    (l, (ls, (refl, (kind, header_says version l.fields ok))))

pub first_reads_seven : FirstReadsSeven
first_reads_seven = saying.first_reads_seven

-- a number is 5, 7 or neither, and is told as that
five : (told : ℕ) → told ≡ 5 → version_numbered told ≡ Some Five
unfolding version_numbered
five told e = rw e

seven : (told : ℕ) → told ≡ 7 → version_numbered told ≡ Some Seven
unfolding version_numbered
seven told e = rw e

module _ (told : ℕ) {A : Type 0} (as-five : told ≡ 5 → A) (as-seven : told ≡ 7 → A) (as-neither : (told ≡ 5 → ⊥) → (told ≡ 7 → ⊥) → A) where
  one_of : A
  one_of = ⊎_elim as-five (λ n. ⊎_elim as-seven (λ m. as-neither n m) (eq_or_ne told 7)) (eq_or_ne told 5)

pub told_exactly : ToldExactly
told_exactly told = (
  (
    λ e. one_of told (λ q. q) (λ q. absurd (saying.unlike (same_version (sym e ∙ seven told q)))) (λ n m. absurd (no_version (told_neither told n m ∙ e))),
    five told,
  ),
  (
    λ e. one_of told (λ q. absurd (saying.unlike (same_version (sym (five told q) ∙ e)))) (λ q. q) (λ n m. absurd (no_version (told_neither told n m ∙ e))),
    seven told,
  ),
  (
    λ e. (λ q. no_version (sym e ∙ five told q), λ q. no_version (sym e ∙ seven told q)),
    λ n. sym (told_neither told n.0 n.1),
  ),
)
