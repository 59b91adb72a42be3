-- The words of a line.
use Rattle.std.proofs.Common.{◌≡◌, ◌≢◌, List, [], ◌∷◌, ap, sym, ◌∙◌, subst, inl, inr, refl}
use Rattle.script_core.specs.Words.{Word}
use Rattle.script_core.specs.Names.{name_of}
use Rattle.script_core.specs.Statements.{statement_name, AreArguments, ArgumentFault, IsStatement, IsLineFault}
use Rattle.script_core.specs.declared.names.StatementName.{StatementName}
use Rattle.script_core.specs.declared.act.Act.{Act}
use Rattle.script_core.specs.declared.fault.LineFault.{LineFault}
use Rattle.script_core.specs.declared.fault.LineFault.TheVariants as fault

module _ (before : List Act) where
  pub line_missing : (words : List Word) (kind : LineFault) → words ≡ [] → kind ≡ fault.Missing → IsLineFault before words kind
  unfolding IsLineFault
  line_missing words kind none is = subst (λ ws. IsLineFault before ws kind) (sym none) is

  pub line_unnamed : (words : List Word) (word : Word) (rest : List Word) → words ≡ word ∷ rest → ((n : StatementName) → word ≢ name_of n) → IsLineFault before words fault.Word
  unfolding IsLineFault
  line_unnamed words word rest begins unnamed = subst (λ ws. IsLineFault before ws fault.Word) (sym begins) (inl (refl, unnamed))

  pub line_behind : (words : List Word) (word : Word) (rest : List Word) (n : StatementName) (kind : LineFault) → words ≡ word ∷ rest → word ≡ name_of n → ArgumentFault before n rest kind → IsLineFault before words kind
  unfolding IsLineFault
  line_behind words word rest n kind begins named is = subst (λ ws. IsLineFault before ws kind) (sym begins) (inr (n, named, is))

  pub line_whole : (act : Act) (words : List Word) (word : Word) (arguments : List Word) (n : StatementName) → words ≡ word ∷ arguments → word ≡ name_of n → statement_name act ≡ n → AreArguments before act arguments → IsStatement before words act
  line_whole act words word arguments n begins named is are = record {
    arguments = arguments;
    named = begins ∙ ap (λ w. w ∷ arguments) (named ∙ ap name_of (sym is));
    are = are;
  }
