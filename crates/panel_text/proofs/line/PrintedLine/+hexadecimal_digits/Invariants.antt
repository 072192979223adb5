use Rattle.panel_text.proofs.line.PrintedLine.+hexadecimal_digits.Given as goal

abbrev pub decreases-hexadecimal_digits : goal.decreases-hexadecimal_digits
decreases-hexadecimal_digits l = l.count
