-- Which number stands for which kind. Assumes nothing.
use Rattle.std.specs.Prelude.{ℕ, zero, suc, cond, Ok, Err, Result, nat_lt}
use Rattle.terms.specs.declared.Kind.{Kind}
use Rattle.terms.specs.declared.Kind.TheVariants.{Denying, Plain, Delegatable}
use Rattle.terms.specs.declared.UnknownKind.{UnknownKind}

-- a number above 2 stands for no kind, and what is said for one stands for nothing
abbrev pub kind_of : ℕ → Kind
kind_of zero = Denying
kind_of (suc zero) = Plain
kind_of (suc (suc k)) = Delegatable

abbrev pub kind_from : ℕ → Result Kind UnknownKind
kind_from n = cond (nat_lt 2 n) (Err (record { 0 = n })) (Ok (kind_of n))
