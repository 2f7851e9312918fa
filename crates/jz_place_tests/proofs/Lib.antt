mod Displacements
