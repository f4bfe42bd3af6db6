mod OwnInputs
